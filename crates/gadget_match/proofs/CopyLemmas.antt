-- Degrees and weights of counts on the graph of copies, the perfect matching there that each b-matching has, and the other way round.
use Rattle.mb_problem.proofs.Common.{◌≡◌, ℕ, ◌+◌, ◌-◌, ◌*◌, ◌<◌, ◌≤◌, pos, ◌*ℤ◌, Bool, true, false, cond, eqb, refl, ap, ap₂, sym, ◌∙◌, inl, inr}
use Rattle.mb_problem.proofs.Common.{arith, List, length, slice_index, ints, cases_Bool, eqb-true, nat_tests, sum_to, int_sum_to, degree, weight, IsPerfect, sum_to-same, int_sum_to-same}
use Rattle.mb_problem.proofs.Common.{Network, IsNetwork, vertices, plain, graph_of, instance_edge_at, value_of, value_total, value_u, value_v, is_loop_at, IsBMatching, edge-ends, find_block}
use Rattle.mb_problem.proofs.Common.{at-same}
use Rattle.mb_problem.specs.declared.answer.Answer.TheVariants.{Counts, Walk, Nothing}
use Rattle.gadget_base.proofs.Common.{blocks, copies_graph, pairs_of_copies, values_below, ReachesAll, at_vertex, weighing, table, clique_table, nat-sum, int-sum, Sums, sums-blocks, pick}
use Rattle.gadget_base.proofs.Common.{pick-block, rectangle-picks, rectangle-weight, among, at_place, clique-picks, clique-weight, copies-within, apart_ends, taken, units, taken-each}
use Rattle.gadget_base.proofs.Common.{units-row, units-column, units-total, neighbours, neighbours-at, neighbours-total, use_at, used, degree-used, weight-used, values-most, used-within_u}
use Rattle.gadget_base.proofs.Common.{used-within_v, used-within_loop, perfect_from_degrees}
use Rattle.mb_problem.specs.declared.kind.Kind.TheVariants.{BMatch}

-- counts on the graph of copies: N k a j between copy a of the first end and copy j of the second end of edge k + 1, and of a loop between copies a and j of its end, a the lesser

abbrev pub pair_table : Network → (ℕ → ℕ → ℕ → ℕ) → ℕ → List ℕ
pair_table i N k = cond (is_loop_at i k) (clique_table (N k) (value_u i k)) (table (N k) (value_u i k) (value_v i k))

abbrev pub on_pairs : Network → (ℕ → ℕ → ℕ → ℕ) → List ℕ
on_pairs i N = blocks (pair_table i N) (length i.edges)

-- what the counts of edge k + 1 are at copy c of t, where it is a loop, where it is none, and in either case

abbrev pub at_loop_copy : Network → (ℕ → ℕ → ℕ → ℕ) → ℕ → ℕ → ℕ → ℕ
at_loop_copy i N t c k = cond (eqb (instance_edge_at i k).u t) (at_place (N k) (value_u i k) c) 0

abbrev pub at_link_copy : Network → (ℕ → ℕ → ℕ → ℕ) → ℕ → ℕ → ℕ → ℕ
at_link_copy i N t c k = cond (eqb (instance_edge_at i k).u t) (sum_to (N k c) (value_v i k)) 0 + cond (eqb (instance_edge_at i k).v t) (sum_to (λ a. N k a c) (value_u i k)) 0

abbrev pub at_copy : Network → (ℕ → ℕ → ℕ → ℕ) → ℕ → ℕ → ℕ → ℕ
at_copy i N t c k = cond (is_loop_at i k) (at_loop_copy i N t c k) (at_link_copy i N t c k)

-- .. and at any vertex q + 1
abbrev at_pairs : Network → (ℕ → ℕ → ℕ → ℕ) → ℕ → ℕ → ℕ
at_pairs i N q k =
    cond (is_loop_at i k) (pick (values_below i (instance_edge_at i k).u) (value_u i k) (at_place (N k) (value_u i k)) q)
    (pick (values_below i (instance_edge_at i k).u) (value_u i k) (λ a. sum_to (N k a) (value_v i k)) q
    + pick (values_below i (instance_edge_at i k).v) (value_v i k) (λ j. sum_to (λ a. N k a j) (value_u i k)) q)

copies_sums : (i : Network) (N : ℕ → ℕ → ℕ → ℕ) (q : ℕ) → Sums sum_to (at_vertex (q + 1)) (copies_graph i).edges (on_pairs i N) (sum_to (at_pairs i N q) (length i.edges))
copies_sums i N q =
    let each : (k : ℕ) → Sums sum_to (at_vertex (q + 1)) (pairs_of_copies i k) (pair_table i N k) (at_pairs i N q k) = λ k.
    let e = instance_edge_at i k in
    elim (cases_Bool (is_loop_at i k)) [
      | inl h ↦ rw h (clique-picks (N k) (values_below i e.u) (value_u i k) e.w q)
      | inr h ↦ rw h (rectangle-picks (values_below i e.u) (value_u i k) (values_below i e.v) (value_v i k) e.w (N k) q)
    ] in
    sums-blocks nat-sum (length i.edges) (λ k _. each k)

pub on_pairs-length : (i : Network) (N : ℕ → ℕ → ℕ → ℕ) → length (on_pairs i N) ≡ length (copies_graph i).edges
on_pairs-length i N = sym (copies_sums i N 0).one_each

same_ends : (u t : ℕ) → 1 ≤ u → 1 ≤ t → eqb (u - 1) (t - 1) ≡ eqb u t
same_ends u t low low' = grind (arith, nat_tests)

-- at copy c of t stand the copies of t alone
at-copies : (i : Network) (u t c : ℕ) (f : ℕ → ℕ) → 1 ≤ u → 1 ≤ t → c < value_of i t
    → pick (values_below i u) (value_of i u) f (values_below i t + c) ≡ cond (eqb u t) (f c) 0
at-copies i u t c f low low' h = pick-block (slice_index i.values) f (u - 1) (t - 1) c h ∙ ap (λ (p : Bool). cond p (f c) 0) (same_ends u t low low')

-- the degree at copy c of vertex t
pub degree_copy : (i : Network) (N : ℕ → ℕ → ℕ → ℕ) (t c : ℕ) → IsNetwork i → 1 ≤ t → c < value_of i t → degree (copies_graph i) (on_pairs i N) (values_below i t + c + 1)
    ≡ sum_to (at_copy i N t c) (length i.edges)
degree_copy i N t c network low h =
    (copies_sums i N (values_below i t + c)).is
    ∙ sum_to-same _ _ (length i.edges)
    (λ k b.
    let e = instance_edge_at i k in
    let ends = edge-ends i k network b in
    elim (cases_Bool (is_loop_at i k)) [
      | inl is ↦ rw is (at-copies i e.u t c (at_place (N k) (value_u i k)) ends.u_low low h)
      | inr is ↦ rw is
          (ap₂ (λ (x y : ℕ). x + y) (at-copies i e.u t c (λ a. sum_to (N k a) (value_v i k)) ends.u_low low h)
          (at-copies i e.v t c (λ j. sum_to (λ a. N k a j) (value_u i k)) ends.v_low low h))
    ])

-- the counts of edge k + 1, all together
abbrev pub all_pairs : Network → (ℕ → ℕ → ℕ → ℕ) → ℕ → ℕ
all_pairs i N k = cond (is_loop_at i k) (among (N k) (value_u i k)) (sum_to (λ a. sum_to (N k a) (value_v i k)) (value_u i k))

pub copies-weight : (i : Network) (N : ℕ → ℕ → ℕ → ℕ) → weight (copies_graph i) (on_pairs i N) ≡ int_sum_to (λ k. pos (all_pairs i N k) *ℤ (instance_edge_at i k).w) (length i.edges)
copies-weight i N =
    let each : (k : ℕ) → Sums int_sum_to weighing (pairs_of_copies i k) (pair_table i N k) (pos (all_pairs i N k) *ℤ (instance_edge_at i k).w) = λ k.
    let e = instance_edge_at i k in
    elim (cases_Bool (is_loop_at i k)) [
      | inl h ↦ rw h (clique-weight (N k) (values_below i e.u) (value_u i k) e.w)
      | inr h ↦ rw h (rectangle-weight (N k) (values_below i e.u) (value_u i k) (values_below i e.v) (value_v i k) e.w)
    ] in
    (sums-blocks int-sum (length i.edges) (λ k _. each k)).is

-- a b-matching, unit by unit on the copies

abbrev pub unit_pairs : Network → List ℕ → ℕ → ℕ → ℕ → ℕ
unit_pairs i counts k = cond {A = ℕ → ℕ → ℕ} (is_loop_at i k) (neighbours (used i counts (instance_edge_at i k).u k) (slice_index counts k))
    (units (used i counts (instance_edge_at i k).u k) (used i counts (instance_edge_at i k).v k) (slice_index counts k))

-- units that are taken at one of two ends, or twice at the one
units-once : (d x c : ℕ) (p q : Bool) → (p ≡ true → q ≡ true → ⊥) → cond p (taken d x c) 0 + cond q (taken d x c) 0 ≡ taken d (x * (cond p 1 0 + cond q 1 0)) c
units-once d x c true true h = absurd (h refl refl)
units-once d x c true false h = let e : x * (1 + 0) ≡ x = omega arith in rw e (omega arith)
units-once d x c false true h = let e : x * (0 + 1) ≡ x = omega arith in rw e (omega arith)
units-once d x c false false h = let e : x * (0 + 0) ≡ 0 = omega arith in rw e refl

units-twice : (d x c : ℕ) (p : Bool) → cond p (taken d (2 * x) c) 0 ≡ taken d (x * (cond p 1 0 + cond p 1 0)) c
units-twice d x c true = ap (λ y. taken d y c) (let e : 2 * x ≡ x * (1 + 1) = omega arith in e)
units-twice d x c false = let e : x * (0 + 0) ≡ 0 = omega arith in rw e refl

unit-at : (i : Network) (counts : List ℕ) (t c k : ℕ) → IsNetwork i → IsBMatching i counts → k < length i.edges → at_copy i (unit_pairs i counts) t c k
    ≡ taken (used i counts t k) (use_at i counts t k) c
unit-at i counts t c k network feasible b =
    let e = instance_edge_at i k in
    let x = slice_index counts k in
    let s = used i counts e.u k in
    let s' = used i counts e.v k in
    let most = values-most i counts feasible in
    let on_end : (w y : ℕ) → y ≡ taken (used i counts w k) x c → cond (eqb w t) y 0 ≡ cond (eqb w t) (taken (used i counts t k) x c) 0 = λ w y is.
    ap (λ z. cond (eqb w t) z 0) is ∙ at-same (λ v. taken (used i counts v k) x c) w t in
    elim (cases_Bool (is_loop_at i k)) [
      | inl h ↦ rw h
          (ap (λ z. cond (eqb e.u t) z 0) (neighbours-at s x (value_u i k) c (used-within_loop i counts k network most b h))
          ∙ at-same (λ v. taken (used i counts v k) (2 * x) c) e.u t
          ∙ units-twice (used i counts t k) x c (eqb e.u t)
          ∙ ap (λ v. taken (used i counts t k) (x * (cond (eqb e.u t) 1 0 + cond (eqb v t) 1 0)) c) (eqb-true e.u e.v h))
      | inr h ↦ rw h
          (ap₂ (λ (y z : ℕ). y + z) (on_end e.u _ (units-row s s' x (value_v i k) c (used-within_v i counts k network most b)))
          (on_end e.v _ (units-column s s' x (value_u i k) c (used-within_u i counts k network most b)))
          ∙ units-once (used i counts t k) x c (eqb e.u t) (eqb e.v t) (λ p q. apart_ends (plain e) h (eqb-true _ _ p ∙ sym (eqb-true _ _ q))))
    ]

unit-degree : (i : Network) (counts : List ℕ) (t c : ℕ) → IsNetwork i → IsBMatching i counts → 1 ≤ t → t ≤ vertices i → c < value_of i t
    → degree (copies_graph i) (on_pairs i (unit_pairs i counts)) (values_below i t + c + 1) ≡ 1
unit-degree i counts t c network feasible low high h =
    degree_copy i (unit_pairs i counts) t c network low h
    ∙ sum_to-same _ _ (length i.edges) (λ k b. unit-at i counts t c k network feasible b)
    ∙ taken-each (use_at i counts t) (length i.edges) c (omega (arith, feasible.degrees t low high, degree-used i counts t, h))

-- each vertex of the graph is a copy of one vertex
pub record IsCopy (i : Network) (p : ℕ) : Type 0 where
  pub t : ℕ
  pub c : ℕ
  pub t_low : 1 ≤ t
  pub t_high : t ≤ vertices i
  pub c_low : c < value_of i t
  pub is : values_below i t + c + 1 ≡ p

find_copy : (i : Network) (p : ℕ) → 1 ≤ p → p ≤ value_total i → IsCopy i p
find_copy i p low high =
    let found = find_block (slice_index i.values) (vertices i) (p - 1) (omega arith) in
    let t = found.block in
    let back : t + 1 - 1 ≡ t = omega arith in
    record {
      t = t + 1;
      c = found.place;
      t_low = omega arith;
      t_high = omega (arith, found.block_low);
      c_low = omega (arith, found.place_low, ap (slice_index i.values) back);
      is = omega (arith, found.is, ap (sum_to (slice_index i.values)) back);
    }

pub unit-perfect : (i : Network) (counts : List ℕ) → IsNetwork i → IsBMatching i counts → IsPerfect (copies_graph i) (on_pairs i (unit_pairs i counts))
unit-perfect i counts network feasible =
    perfect_from_degrees (copies_graph i) (on_pairs i (unit_pairs i counts)) (copies-within i network) (on_pairs-length i (unit_pairs i counts))
    (λ p low high.
    let copy = find_copy i p low high in
    ap (degree (copies_graph i) (on_pairs i (unit_pairs i counts))) (sym copy.is)
    ∙ unit-degree i counts copy.t copy.c network feasible copy.t_low copy.t_high copy.c_low)

unit-total : (i : Network) (counts : List ℕ) (k : ℕ) → IsNetwork i → IsBMatching i counts → k < length i.edges → all_pairs i (unit_pairs i counts) k ≡ slice_index counts k
unit-total i counts k network feasible b =
    let x = slice_index counts k in
    let s = used i counts (instance_edge_at i k).u k in
    let s' = used i counts (instance_edge_at i k).v k in
    let most = values-most i counts feasible in
    elim (cases_Bool (is_loop_at i k)) [
      | inl h ↦ rw h (neighbours-total s x (value_u i k) (used-within_loop i counts k network most b h))
      | inr h ↦ rw h (units-total s s' x (value_u i k) (value_v i k) (used-within_u i counts k network most b) (used-within_v i counts k network most b))
    ]

pub unit-weight : (i : Network) (counts : List ℕ) → IsNetwork i → IsBMatching i counts → weight (copies_graph i) (on_pairs i (unit_pairs i counts)) ≡ weight (graph_of i) counts
unit-weight i counts network feasible =
    copies-weight i (unit_pairs i counts)
    ∙ int_sum_to-same _ _ (length i.edges)
    (λ k b. ap (λ x. pos x *ℤ (instance_edge_at i k).w) (unit-total i counts k network feasible b))
    ∙ sym (weight-used i counts)

pub copies_reach : (i : Network) → IsNetwork i → ReachesAll BMatch i
copies_reach i network (Counts counts) feasible = record {
  counts = on_pairs i (unit_pairs i counts);
  perfect = unit-perfect i counts network feasible;
  weighs = let weighs = unit-weight i counts network feasible in omega (arith, ints, weighs);
}
copies_reach i network (Walk start edges) none = absurd none
copies_reach i network Nothing none = absurd none
