-- Each path has its perfect matching of the graph of two copies: its edges in turn in the first copy and in the second, and the vertices off the path joined to
-- their copies.
use Rattle.mb_problem.proofs.Common.{◌≡◌, ℕ, ◌+◌, ◌-◌, ◌<◌, ◌≤◌, ◌+ℤ◌, Bool, true, false, not, cond, ◌&&◌, refl, ap, ap₂, sym, ◌∙◌, inl, inr}
use Rattle.mb_problem.proofs.Common.{arith, List, length, slice_index, and_cases, not-false, degree, weight, IsPerfect, sum_to-has, Network, IsNetwork, vertices, graph_of, instance_edge_at}
use Rattle.mb_problem.proofs.Common.{joins, is_loop_at, edge-ends}
use Rattle.gadget_base.proofs.Common.{sides_graph, perfect_from_degrees, use_at, degree-used, use_at-u_some, use_at-v_some, loop-unused}
use Rattle.gadget_parity.proofs.SideCounts.{kept_counts, side_counts, side_counts-length, side_counts-first, side_counts-second, side_counts-weight, kept-all}
use Rattle.gadget_parity.proofs.SideGraph.{sides-within, all_places}

-- Counts of two sets of edges of which each meets a vertex once where h is 1 and the vertex stands in its copy, and else not at all.
pub record AreTurns (one two : ℕ → Bool) (i : Network) (x y : List ℕ) (h : ℕ → ℕ) : Type 0 where
  pub first_each : length x ≡ length i.edges
  pub second_each : length y ≡ length i.edges
  pub value_limit : (v : ℕ) → h v ≤ 1
  pub first : (v : ℕ) → 1 ≤ v → v ≤ vertices i → degree (graph_of i) x v + cond (one v) 0 1 ≡ h v
  pub second : (v : ℕ) → 1 ≤ v → v ≤ vertices i → degree (graph_of i) y v + cond (two v) 0 1 ≡ h v

-- no edge is counted that has no copy there
uncounted : (there : ℕ → Bool) (i : Network) (x : List ℕ) (h : ℕ → ℕ) (k : ℕ) → IsNetwork i → ((v : ℕ) → h v ≤ 1)
    → ((v : ℕ) → 1 ≤ v → v ≤ vertices i → degree (graph_of i) x v + cond (there v) 0 1 ≡ h v) → k < length i.edges → joins there i k ≡ false → slice_index x k ≡ 0
uncounted there i x h k network small each b off =
    let e = instance_edge_at i k in
    let ends = edge-ends i k network b in
    let none : (w : ℕ) → there w ≡ false → 1 ≤ w → w ≤ vertices i → slice_index x k ≤ use_at i x w k → slice_index x k ≡ 0 = λ w gone low high some. omega (
      arith,
      each w low high,
      ap (λ (t : Bool). cond {A = ℕ} t 0 1) gone,
      small w,
      some,
      degree-used i x w,
      sum_to-has (use_at i x w) (length i.edges) k b,
    ) in
    elim (and_cases (not (is_loop_at i k)) (there e.u && there e.v) off) [
      | inl loop ↦ loop-unused i x k network (λ v low high. omega (arith, each v low high, small v)) b (not-false (is_loop_at i k) loop)
      | inr away ↦ elim (and_cases (there e.u) (there e.v) away) [
        | inl gone ↦ none e.u gone ends.u_low ends.u_high (use_at-u_some i x k)
        | inr gone ↦ none e.v gone ends.v_low ends.v_high (use_at-v_some i x k)
      ]
    ]

-- the degree of a copy, with the edge to the other copy

once : (t : Bool) (d e h : ℕ) → d + 0 ≡ h → e + cond t 0 1 ≡ h → h ≤ 1 → d + cond t (1 - h) 0 ≡ 1
once true d e h is is' small = omega (arith, is, small)
once false d e h is is' small = omega (arith, is, is', small)

and_true : (t : Bool) → (t && true) ≡ t
and_true true = refl
and_true false = refl

abbrev pub turn_counts : (ℕ → Bool) → (ℕ → Bool) → Network → List ℕ → List ℕ → (ℕ → ℕ) → List ℕ
turn_counts one two i x y h = side_counts one two i (slice_index x) (slice_index y) (λ v. 1 - h v)

module _ (one two : ℕ → Bool) (i : Network) (x y : List ℕ) (h : ℕ → ℕ) (network : IsNetwork i) (are : AreTurns one two i x y h) where
  first_kept : kept_counts one i (slice_index x) ≡ x
  first_kept = kept-all one i x are.first_each (λ k b off. uncounted one i x h k network are.value_limit are.first b off)

  second_kept : kept_counts two i (slice_index y) ≡ y
  second_kept = kept-all two i y are.second_each (λ k b off. uncounted two i y h k network are.value_limit are.second b off)

  pub turns-perfect : IsPerfect (sides_graph one two i) (turn_counts one two i x y h)
  turns-perfect =
      let g = sides_graph one two i in
      let z : ℕ → ℕ = λ v. 1 - h v in
      perfect_from_degrees g _ (sides-within one two i network) (side_counts-length one two i (slice_index x) (slice_index y) z)
      (all_places (λ p. degree g (turn_counts one two i x y h) p ≡ 1) one two i
      (λ v low high stands.
      side_counts-first one two i (slice_index x) (slice_index y) z v network low high stands
      ∙ ap₂ (λ (xs : List ℕ) (t : Bool). degree (graph_of i) xs v + cond (t && two v) (z v) 0) first_kept stands
      ∙ once (two v) _ _ (h v) (ap (λ (t : Bool). degree (graph_of i) x v + cond t 0 1) (sym stands) ∙ are.first v low high) (are.second v low high) (are.value_limit v))
      (λ v low high stands.
      side_counts-second one two i (slice_index x) (slice_index y) z v network low high stands
      ∙ ap₂ (λ (xs : List ℕ) (t : Bool). degree (graph_of i) xs v + cond t (z v) 0) second_kept (ap (λ (t : Bool). one v && t) stands ∙ and_true (one v))
      ∙ once (one v) _ _ (h v) (ap (λ (t : Bool). degree (graph_of i) y v + cond t 0 1) (sym stands) ∙ are.second v low high) (are.first v low high) (are.value_limit v)))

  pub turns-weight : weight (sides_graph one two i) (turn_counts one two i x y h) ≡ weight (graph_of i) x +ℤ weight (graph_of i) y
  turns-weight =
      side_counts-weight one two i (slice_index x) (slice_index y) (λ v. 1 - h v)
      ∙ ap₂ (λ (xs ys : List ℕ). weight (graph_of i) xs +ℤ weight (graph_of i) ys) first_kept second_kept
