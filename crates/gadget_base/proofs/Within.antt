-- Edges of rectangles, cliques and of the graphs for matchings and b-matchings lie within their graph, and none is a loop.
use Rattle.mb_problem.proofs.Common.{◌≡◌, ◌≢◌, ℕ, ◌+◌, ◌-◌, ◌*◌, ◌<◌, ◌≤◌, ◌⊎◌, ℤ, pos, neg_ℤ, false, cond, refl, ap, sym, subst, ◌∙◌}
use Rattle.mb_problem.proofs.Common.{inl, inr, arith, List, [], ◌∷◌, length, slice_index, slice_index_or, All, length-append, cases_lt, cases_Bool, ne_eqb, get_or_read, All-append}
use Rattle.mb_problem.proofs.Common.{All-cons, All-nil, Edge, IsEdgeWithin, is_loop, HasNoLoop, sum_to-same, times-sum_to, Network, IsNetwork, vertices, plain, instance_edge_at}
use Rattle.mb_problem.proofs.Common.{no_instance_edge, value_of, size_of, value_total, value_u, value_v, is_loop_at, copy_pairs, edge-ends, HasSize, sum_to-grows}
use Rattle.mb_problem.specs.declared.instance.InstanceEdge.{InstanceEdge}
use Rattle.mb_problem.specs.declared.kind.Kind.TheVariants.{Match, BMatch}
use Rattle.gadget_base.specs.Blocks.{blocks, tabled, row, rectangle, clique}
use Rattle.gadget_base.specs.Gadgets.{doubled_graph, two_copies, to_copy, copies_graph, pairs_of_copies, values_below}
use Rattle.gadget_base.specs.Links.{links_below}
use Rattle.gadget_base.proofs.Blocks.{tabled-length, blocks-length, rectangle-length, All-tabled, All-blocks, All-unless}
use Rattle.gadget_base.proofs.Grown.{clique-length}
use Rattle.gadget_base.proofs.NoLoop.{apart_ends}

pub All-two : {A : Type 0} (P : A → Type 0) (x y : A) → P x → P y → All P (x ∷ y ∷ [])
All-two P x y one two = All-cons P x (y ∷ []) one (All-cons P y [] two (All-nil P))

-- an edge that was read is the one at its place
pub edge_here : (i : Network) (es : List InstanceEdge) (k : ℕ) (e : InstanceEdge) → es ≡ i.edges → k < length es → e ≡ slice_index_or es k e → e ≡ instance_edge_at i k
edge_here i es k e same b is = get_or_read es k e b is no_instance_edge ∙ ap (λ (xs : List InstanceEdge). slice_index_or xs k no_instance_edge) same

pub place_here : (i : Network) (es : List InstanceEdge) (k : ℕ) → es ≡ i.edges → k < length es → k < length i.edges
place_here i es k same b = subst (λ (xs : List InstanceEdge). k < length xs) same b

-- copies of vertices

pub copies-inside : (i : Network) (t : ℕ) → 1 ≤ t → t ≤ vertices i → (values_below i t + value_of i t) ≤ value_total i
copies-inside i t low high = sum_to-grows (λ k. slice_index i.values k) (t - 1) (vertices i) (omega arith)

-- the copies of one of two vertices come before those of the other
pub copies-apart : (i : Network) (u v : ℕ) → 1 ≤ u → 1 ≤ v → u ≢ v → ((values_below i u + value_of i u) ≤ values_below i v) ⊎ ((values_below i v + value_of i v) ≤ values_below i u)
copies-apart i u v low low' differ =
    elim (cases_lt u v) [
      | inl l ↦ inl (sum_to-grows (λ k. slice_index i.values k) (u - 1) (v - 1) (omega arith))
      | inr m ↦ inr (sum_to-grows (λ k. slice_index i.values k) (v - 1) (u - 1) (omega arith))
    ]

-- an edge between two different ones of n vertices

pub record IsProper (n : ℕ) (e : Edge) : Type 0 where
  pub within : IsEdgeWithin n e
  pub no_loop : is_loop e ≡ false

pub proper : (n u v : ℕ) (w : ℤ) → 1 ≤ u → u ≤ n → 1 ≤ v → v ≤ n → u ≢ v → IsProper n (record { u = u; v = v; w = w })
proper n u v w u_low u_high v_low v_high differ = record {
  within = record { u_low = u_low; u_high = u_high; v_low = v_low; v_high = v_high };
  no_loop = ne_eqb u v differ;
}

pub rectangle-proper : (total first m second n : ℕ) (w : ℤ) → first + m ≤ total → second + n ≤ total → (first + m ≤ second) ⊎ (second + n ≤ first)
    → All (IsProper total) (rectangle first m second n w)
rectangle-proper total first m second n w inside inside' apart =
    All-blocks (IsProper total) (λ a. row (first + a + 1) second n w) m
    (λ a b.
    All-tabled (IsProper total) (λ j. record { u = first + a + 1; v = second + j + 1; w = w }) n
    (λ j l. proper total (first + a + 1) (second + j + 1) w (omega arith) (omega arith) (omega arith) (omega arith) (λ e. elim apart [ inl x ↦ omega arith | inr x ↦ omega arith ])))

pub clique-proper : (total before n : ℕ) (w : ℤ) → before + n ≤ total → All (IsProper total) (clique before n w)
clique-proper total before n w inside =
    All-blocks (IsProper total) (λ a. row (before + a + 1) (before + a + 1) (n - 1 - a) w) n
    (λ a b.
    All-tabled (IsProper total) (λ d. record { u = before + a + 1; v = before + a + 1 + d + 1; w = w }) (n - 1 - a)
    (λ d l. proper total (before + a + 1) (before + a + 1 + d + 1) w (omega arith) (omega arith) (omega arith) (omega arith) (λ e. omega arith)))

-- the doubled graph

doubled-proper : (i : Network) → IsNetwork i → All (IsProper (2 * vertices i)) (doubled_graph i).edges
doubled-proper i network =
    let n = vertices i in
    let P : Edge → Type 0 = IsProper (2 * n) in
    All-append P _ _
    (All-blocks P (two_copies i) (length i.edges)
    (λ k b.
    let e = instance_edge_at i k in
    let ends : IsEdgeWithin n (plain e) = edge-ends i k network b in
    let at : (1 ≤ e.u) × (e.u ≤ n) × (1 ≤ e.v) × (e.v ≤ n) = (ends.u_low, ends.u_high, ends.v_low, ends.v_high) in
    All-unless P (is_loop_at i k) _
    (λ link.
    let differ : e.u ≢ e.v = apart_ends (plain e) link in
    All-two P _ _ (proper (2 * n) e.u e.v (neg_ℤ e.w) at.0 (omega arith) at.2 (omega arith) differ)
    (proper (2 * n) (e.u + n) (e.v + n) (neg_ℤ e.w) (omega arith) (omega arith) (omega arith) (omega arith) (λ same. differ (omega arith))))))
    (All-tabled P (to_copy i) n (λ k b. proper (2 * n) (k + 1) (k + 1 + n) (pos 0) (omega arith) (omega arith) (omega arith) (omega arith) (λ e. omega arith)))

pub doubled-within : (i : Network) → IsNetwork i → All (IsEdgeWithin (doubled_graph i).vertices) (doubled_graph i).edges
doubled-within i network = λ k d b. (doubled-proper i network k d b).within

pub doubled-no_loop : (i : Network) → IsNetwork i → HasNoLoop (doubled_graph i)
doubled-no_loop i network = λ k d b. (doubled-proper i network k d b).no_loop

pub pairs-length : (i : Network) (m : ℕ) → length (blocks (two_copies i) m) ≡ 2 * links_below i m
pairs-length i m =
    blocks-length (two_copies i) m
    ∙ sum_to-same _ (λ k. 2 * cond (is_loop_at i k) 0 1) m (λ k _. elim (cases_Bool (is_loop_at i k)) [ inl h ↦ rw h refl | inr h ↦ rw h refl ])
    ∙ sym (times-sum_to 2 _ m)

pub doubled_size : (i : Network) → HasSize (size_of Match i) (doubled_graph i)
doubled_size i = record {
  vertices = refl;
  edges = omega (arith, length-append (blocks (two_copies i) (length i.edges)) (tabled (to_copy i) (vertices i)), pairs-length i (length i.edges), tabled-length (to_copy i) (vertices i));
}

-- the graph of copies

copies-proper : (i : Network) → IsNetwork i → All (IsProper (value_total i)) (copies_graph i).edges
copies-proper i network =
    All-blocks (IsProper (value_total i)) (pairs_of_copies i) (length i.edges)
    (λ k b.
    let e = instance_edge_at i k in
    let ends = edge-ends i k network b in
    let inside = copies-inside i e.u ends.u_low ends.u_high in
    elim (cases_Bool (is_loop_at i k)) [
      | inl h ↦ rw h (clique-proper (value_total i) (values_below i e.u) (value_u i k) e.w inside)
      | inr h ↦ rw h (rectangle-proper (value_total i) (values_below i e.u) (value_u i k) (values_below i e.v) (value_v i k) e.w inside (copies-inside i e.v ends.v_low ends.v_high)
          (copies-apart i e.u e.v ends.u_low ends.v_low (apart_ends (plain e) h)))
    ])

pub copies-within : (i : Network) → IsNetwork i → All (IsEdgeWithin (copies_graph i).vertices) (copies_graph i).edges
copies-within i network = λ k d b. (copies-proper i network k d b).within

pub copies-no_loop : (i : Network) → IsNetwork i → HasNoLoop (copies_graph i)
copies-no_loop i network = λ k d b. (copies-proper i network k d b).no_loop

pub copies_size : (i : Network) → HasSize (size_of BMatch i) (copies_graph i)
copies_size i = record {
  vertices = refl;
  edges =
      blocks-length (pairs_of_copies i) (length i.edges)
      ∙ sum_to-same _ (copy_pairs i) (length i.edges)
      (λ k _. elim (cases_Bool (is_loop_at i k)) [
        | inl h ↦ rw h (clique-length (values_below i (instance_edge_at i k).u) (value_u i k) (instance_edge_at i k).w)
        | inr h ↦ rw h (rectangle-length _ (value_u i k) (values_below i (instance_edge_at i k).v) (value_v i k) (instance_edge_at i k).w)
      ]);
}
