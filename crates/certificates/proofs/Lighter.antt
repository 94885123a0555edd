-- A barrier of the graph of lighter edges: each perfect matching uses an edge that isn't lighter.
use Rattle.mb_problem.proofs.Common.{◌≡◌, ℕ, zero, suc, ◌*◌, ◌<◌, ◌≤◌, ℤ, pos, ◌<ℤ◌, ◌≤ℤ◌, Bool, true, false, not, ◌&&◌, cond, refl, sym, ap}
use Rattle.mb_problem.proofs.Common.{◌∙◌, subst, inl, inr, arith, List, [], ◌∷◌, length, slice_index, All, Option, None, Some, IfSome, int_lt, nat_lt, unwrap_or, filter, dec_lt}
use Rattle.mb_problem.proofs.Common.{cases_Bool, ints, All-nil, All-cons, All-filter, Edge, Multigraph, IsGraph, IsEdgeWithin, IsWeight, IsPerfect, no_edge, edge_at, ends_at, is_loop}
use Rattle.mb_problem.proofs.Common.{IsBarrier, sum_to-same, barrier_excludes, Network, IsNetwork, vertices, graph_of, plain_graph, greater_of, greatest_to, used_weight, heaviest}
use Rattle.mb_problem.proofs.Common.{edge_at-graph_of, edges-count, edge-ends}
use Rattle.gadget_base.proofs.Common.{blocks, lighter_than, filter-blocks, All-blocks, over, at_vertex, over-blocks, blocks-lengths, loop-unused, plain-graph}
use Rattle.certificates.proofs.AscentLemmas.{int_lt-true}
use Rattle.certificates.proofs.BarrierLemmas.{int_lt-yes}

-- ---- a perfect matching whose edges all pass a test

length-kept : (t : Bool) (e : Edge) (c : ℕ) → length (cond t (e ∷ []) []) ≡ length (cond t (c ∷ []) [])
length-kept true e c = refl
length-kept false e c = refl

All-kept : (P : ℕ → Type 0) (t : Bool) (c : ℕ) → P c → All P (cond t (c ∷ []) [])
All-kept P true c h = All-cons P c [] h (All-nil P)
All-kept P false c h = All-nil P

over-kept : (F : Edge → ℕ → ℕ) (t : Bool) (e : Edge) (c : ℕ) → (t ≡ false → F e c ≡ 0) → over F (cond t (e ∷ []) []) (cond t (c ∷ []) []) ≡ F e c
over-kept F true e c h = omega arith
over-kept F false e c h = sym (h refl)

module _ (p : Edge → Bool) (g : Multigraph) (counts : List ℕ) (perfect : IsPerfect g counts)
    (none : (k : ℕ) → k < length g.edges → p (edge_at g k) ≡ false → slice_index counts k ≡ 0) where
  abbrev edges : ℕ → List Edge
  edges k = cond (p (edge_at g k)) (edge_at g k ∷ []) []

  abbrev uses : ℕ → List ℕ
  uses k = cond (p (edge_at g k)) (slice_index counts k ∷ []) []

  same_lengths : (k : ℕ) → k < length g.edges → length (edges k) ≡ length (uses k)
  same_lengths k b = length-kept (p (edge_at g k)) (edge_at g k) (slice_index counts k)

  -- its counts are a perfect matching of the graph of these edges
  pub kept-perfect : IsPerfect (record { vertices = g.vertices; edges = filter p g.edges }) (blocks uses (length g.edges))
  kept-perfect = record {
    one_each = sym (ap (λ (es : List Edge). length es) (filter-blocks p no_edge g.edges) ∙ blocks-lengths edges uses (length g.edges) same_lengths);
    at_most_one =
        let P : ℕ → Type 0 = λ c. c ≤ 1 in
        All-blocks P uses (length g.edges) (λ k b. All-kept P (p (edge_at g k)) (slice_index counts k) (perfect.at_most_one k 0 (omega (arith, perfect.one_each, b))));
    degrees = λ v low high.
        ap (λ (es : List Edge). over (at_vertex v) es (blocks uses (length g.edges))) (filter-blocks p no_edge g.edges)
        ∙ over-blocks (at_vertex v) edges uses (length g.edges) same_lengths
        ∙ sum_to-same (λ k. over (at_vertex v) (edges k) (uses k)) (λ k. slice_index counts k * ends_at (edge_at g k) v) (length g.edges)
        (λ k b. over-kept (at_vertex v) (p (edge_at g k)) (edge_at g k) (slice_index counts k) (λ off. rw (none k b off) (omega arith)))
        ∙ perfect.degrees v low high;
  }

-- ---- the graph of lighter edges

filter_both : (p q : Edge → Bool) (es : List Edge) → filter p (filter q es) ≡ filter (λ e. q e && p e) es
filter_both p q [] = refl
filter_both p q (e ∷ es) = elim (cases_Bool (q e)) [
  | inl on ↦ rw on (ap (λ l. cond (p e) (e ∷ l) l) (filter_both p q es))
  | inr off ↦ rw off (filter_both p q es)
]

few_kept : (p : Edge → Bool) (es : List Edge) → length (filter p es) ≤ length es
few_kept p [] = omega arith
few_kept p (e ∷ es) = elim (cases_Bool (p e)) [ inl on ↦ rw on (omega (arith, few_kept p es)) | inr off ↦ rw off (omega (arith, few_kept p es)) ]

pub lighter-graph : (w : ℤ) (g : Multigraph) → IsGraph g → IsGraph (lighter_than w g)
lighter-graph w g ok =
    let p : Edge → Bool = λ e. int_lt e.w w in
    record {
      few_vertices = ok.few_vertices;
      few_edges = omega (arith, ok.few_edges, few_kept p g.edges);
      ends = All-filter p (IsEdgeWithin g.vertices) g.edges ok.ends;
      weights = All-filter p (λ e. IsWeight e.w) g.edges ok.weights;
    }

-- ---- the heaviest edge

both_below : (w : ℤ) (a b : Option ℤ) → IfSome (greater_of a b) (λ x. x <ℤ w) → IfSome a (λ x. x <ℤ w) × IfSome b (λ x. x <ℤ w)
both_below w None b h = (tt, h)
both_below w (Some a) None h = (h, tt)
both_below w (Some a) (Some b) h = grind (arith, ints)

each_below : (w : ℤ) (f : ℕ → Option ℤ) (n k : ℕ) → IfSome (greatest_to f n) (λ x. x <ℤ w) → k < n → IfSome (f k) (λ x. x <ℤ w)
each_below w f zero k h b = absurd (omega arith)
each_below w f (suc n) k h b =
    let parts = both_below w (greatest_to f n) (f n) h in
    elim (dec_lt k n) [
      | yes before ↦ each_below w f n k parts.0 before
      | no last ↦ subst (λ j. IfSome (f j) (λ x. x <ℤ w)) (let e : n ≡ k = omega arith in e) parts.1
    ]

unused : (w x : ℤ) (c : ℕ) → IfSome (cond (nat_lt 0 c) (Some x) None) (λ y. y <ℤ w) → int_lt x w ≡ false → c ≡ 0
unused w x c h off = elim (cases_Bool (nat_lt 0 c)) [
  | inl some ↦ (let on : int_lt x w ≡ true = int_lt-yes x w (rw some at h) in absurd (cc))
  | inr none ↦ grind arith
]

no_less : (w : ℤ) (greatest : Option ℤ) → (IfSome greatest (λ x. x <ℤ w) → ⊥) → w ≤ℤ unwrap_or greatest (pos 0)
no_less w None h = absurd (h tt)
no_less w (Some x) h = elim (cases_Bool (int_lt x w)) [ inl on ↦ absurd (h (int_lt-true x w on)) | inr off ↦ grind (arith, ints) ]

module _ (i : Network) (w : ℤ) (removed counts : List ℕ) (network : IsNetwork i) (perfect : IsPerfect (graph_of i) counts) where
  -- each edge that is used is no loop and lighter, where none that is used is as heavy
  none_other : IfSome (greatest_to (used_weight (graph_of i) counts) (length (graph_of i).edges)) (λ x. x <ℤ w) → (k : ℕ) → k < length (graph_of i).edges →
      (not (is_loop (edge_at (graph_of i) k)) && int_lt (edge_at (graph_of i) k).w w) ≡ false → slice_index counts k ≡ 0
  none_other below k b off =
      let here : k < length i.edges = omega (arith, b, edges-count i) in
      let small : (v : ℕ) → 1 ≤ v → v ≤ vertices i → _ ≤ 1 = λ v low high. (let one = perfect.degrees v low high in omega (arith, one)) in
      elim (cases_Bool (is_loop (edge_at (graph_of i) k))) [
        | inl loop ↦ loop-unused i counts k network small here (ap is_loop (sym (edge_at-graph_of i k)) ∙ loop)
        | inr plain ↦ unused w (edge_at (graph_of i) k).w (slice_index counts k) (each_below w (used_weight (graph_of i) counts) _ k below b) (rw plain at off)
      ]

  -- where a barrier of the lighter edges excludes their perfect matchings, its heaviest edge is none of them
  pub heaviest-no_less : IsBarrier (lighter_than w (plain_graph i)) removed → w ≤ℤ heaviest (graph_of i) counts
  heaviest-no_less barrier = no_less w (greatest_to (used_weight (graph_of i) counts) (length (graph_of i).edges)) (λ below.
      let link : Edge → Bool = λ e. not (is_loop e) in
      let light : Edge → Bool = λ e. int_lt e.w w in
      let left : Multigraph = record { vertices = vertices i; edges = filter (λ e. link e && light e) (graph_of i).edges } in
      let same : lighter_than w (plain_graph i) ≡ left = ap (λ (es : List Edge). record { vertices = vertices i; edges = es }) (filter_both light link (graph_of i).edges) in
      let ok : IsGraph left = subst IsGraph same (lighter-graph w (plain_graph i) (plain-graph i network)) in
      barrier_excludes left removed _ ok (subst (λ (g : Multigraph). IsBarrier g removed) same barrier)
      (kept-perfect (λ e. link e && light e) (graph_of i) counts perfect (none_other below)))

-- without vertices there is no edge
pub heaviest-none : (i : Network) (counts : List ℕ) → IsNetwork i → vertices i ≡ 0 → heaviest (graph_of i) counts ≡ pos 0
heaviest-none i counts network empty =
    let none : length i.edges ≡ 0 = elim (dec_lt 0 (length i.edges)) [
      | yes some ↦ (let ends = edge-ends i 0 network some in let low = ends.u_low in let high = ends.u_high in absurd (omega (arith, low, high, empty)))
      | no h ↦ omega arith
    ] in
    ap (λ n. unwrap_or (greatest_to (used_weight (graph_of i) counts) n) (pos 0)) (edges-count i ∙ none)
