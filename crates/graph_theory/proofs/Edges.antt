-- Lemmas on edges: their ends in a valid graph, what one edge counts at a vertex, and a graph with one edge more.
use Rattle.std.proofs.Common.{◌≡◌, ℕ, ◌+◌, ◌-◌, ◌*◌, ◌<◌, ◌≤◌, Bool, true, false, cond, ◌||◌, eqb, refl, ap, sym, ◌∙◌, subst, inl, inr, arith, List}
use Rattle.std.proofs.Common.{length, slice_index, slice_index_or, All}
use Rattle.std.proofs.lemmas.Bool.{cases_Bool, eqb-true, eq-eqb, ne_eqb, or_right, or_cases, false≢true}
use Rattle.std.proofs.lemmas.List.{get_or_read}
use Rattle.graph_theory.specs.Sums.{sum_to}
use Rattle.graph_theory.specs.declared.edge.Edge.{Edge}
use Rattle.graph_theory.specs.Graph.{Multigraph, IsGraph, IsEdgeWithin, IsWeight, no_edge, edge_at, edge_of, IsEdgeNumber, touches, other_end, ends_at, degree, CountsNoneAt, is_loop}
use Rattle.graph_theory.specs.Graph.{HasNoLoop}
use Rattle.graph_theory.proofs.SumLemmas.{sum_to-same, sum_to-zero}

-- the edges of a valid graph

pub edge_of_within : (g : Multigraph) (e : ℕ) → All (IsEdgeWithin g.vertices) g.edges → IsEdgeNumber g e → IsEdgeWithin g.vertices (edge_of g e)
edge_of_within g e ends is =
    let low : 1 ≤ e = is.0 in
    let high : e ≤ length g.edges = is.1 in
    ends (e - 1) no_edge (omega arith)

-- the edge of the number after a place
pub edge_of-place : (g : Multigraph) (k : ℕ) → edge_of g (k + 1) ≡ edge_at g k
edge_of-place g k = ap (edge_at g) (let e : k + 1 - 1 ≡ k = omega arith in e)

pub touches-u : (e : Edge) → touches e e.u ≡ true
touches-u e = rw (eq-eqb e.u e.u refl) refl

pub touches-v : (e : Edge) → touches e e.v ≡ true
touches-v e = or_right (eqb e.u e.v) (eqb e.v e.v) (eq-eqb e.v e.v refl)

pub other_end-u : (e : Edge) → other_end e e.u ≡ e.v
other_end-u e = rw (eq-eqb e.u e.u refl) refl

pub other_end-v : (n : ℕ) (e : Edge) → IsEdgeWithin n e → other_end e e.v ≡ e.u
other_end-v n e within = elim (cases_Bool (eqb e.u e.v)) [ inl h ↦ rw h (sym (eqb-true e.u e.v h)) | inr h ↦ rw h refl ]

pub other_end-within : (n : ℕ) (e : Edge) (v : ℕ) → IsEdgeWithin n e → (1 ≤ other_end e v) × (other_end e v ≤ n)
other_end-within n e v within =
    elim (cases_Bool (eqb e.u v)) [
      | inl h ↦ rw h (within.v_low, within.v_high)
      | inr h ↦ rw h (within.u_low, within.u_high)
    ]

-- a vertex at the edge is one of its ends, and a vertex of the graph
pub touched-within : (n : ℕ) (e : Edge) (v : ℕ) → IsEdgeWithin n e → touches e v ≡ true → (1 ≤ v) × (v ≤ n)
touched-within n e v within meets =
    let P : ℕ → Type 0 = λ x. (1 ≤ x) × (x ≤ n) in
    elim (or_cases (eqb e.u v) (eqb e.v v) meets) [
      | inl h ↦ subst P (eqb-true e.u v h) (within.u_low, within.u_high)
      | inr h ↦ subst P (eqb-true e.v v h) (within.v_low, within.v_high)
    ]

-- an edge leads back
pub edge_back : (n : ℕ) (e : Edge) (v : ℕ) → IsEdgeWithin n e → touches e v ≡ true → (touches e (other_end e v) ≡ true) × (other_end e (other_end e v) ≡ v)
edge_back n e v within meets =
    elim (cases_Bool (eqb e.u v)) [
      | inl at_u ↦
          rw at_u (or_right (eqb e.u e.v) (eqb e.v e.v) (eq-eqb e.v e.v refl), other_end-v n e within ∙ eqb-true e.u v at_u)
      | inr off ↦
          let at_v : eqb e.v v ≡ true = elim (or_cases (eqb e.u v) (eqb e.v v) meets) [ inl h ↦ absurd (false≢true (sym off ∙ h)) | inr h ↦ h ] in
          let here : eqb e.u e.u ≡ true = eq-eqb e.u e.u refl in
          rw (off, here) (refl, eqb-true e.v v at_v)
    ]

-- an edge that was read is the edge at its place
pub edge_at-read : (g : Multigraph) (k : ℕ) (e : Edge) → k < length g.edges → e ≡ slice_index_or g.edges k e → edge_at g k ≡ e
edge_at-read g k e b is = sym (get_or_read g.edges k e b is no_edge)

pub edge_at-within : (g : Multigraph) (k : ℕ) → All (IsEdgeWithin g.vertices) g.edges → k < length g.edges → IsEdgeWithin g.vertices (edge_at g k)
edge_at-within g k ends b = ends k no_edge b

pub edge_at-weight : (g : Multigraph) (k : ℕ) → IsGraph g → k < length g.edges → IsWeight (edge_at g k).w
edge_at-weight g k ok b = ok.weights k no_edge b

pub edge_of-weight : (g : Multigraph) (e : ℕ) → IsGraph g → IsEdgeNumber g e → IsWeight (edge_of g e).w
edge_of-weight g e ok is =
    let low : 1 ≤ e = is.0 in
    let high : e ≤ length g.edges = is.1 in
    ok.weights (e - 1) no_edge (omega arith)

-- the number of a place
pub number_of-place : (g : Multigraph) (k : ℕ) → k < length g.edges → IsEdgeNumber g (k + 1)
number_of-place g k b = (omega arith, omega arith)

-- how often an edge counts at a vertex

pub ends_at-other : (e : Edge) (v : ℕ) → (e.u ≡ v → ⊥) → (e.v ≡ v → ⊥) → ends_at e v ≡ 0
ends_at-other e v not_u not_v =
    let off_u : eqb e.u v ≡ false = ne_eqb e.u v not_u in
    let off_v : eqb e.v v ≡ false = ne_eqb e.v v not_v in
    rw (off_u, off_v) refl

not_both : (p q : Bool) → (p ≡ true → q ≡ true → ⊥) → cond p 1 0 + cond q 1 0 ≡ cond (p || q) 1 0
not_both true true h = absurd (h refl refl)
not_both true false h = refl
not_both false true h = refl
not_both false false h = refl

-- an edge with different ends counts once at each of them
pub ends_at-touches : (e : Edge) (v : ℕ) → is_loop e ≡ false → ends_at e v ≡ cond (touches e v) 1 0
ends_at-touches e v plain = not_both (eqb e.u v) (eqb e.v v) (λ p q. false≢true (sym plain ∙ eq-eqb e.u e.v (eqb-true e.u v p ∙ sym (eqb-true e.v v q))))

some_of : (p q : Bool) → (p || q) ≡ true → 1 ≤ cond p 1 0 + cond q 1 0
some_of true true h = omega arith
some_of true false h = omega arith
some_of false true h = omega arith
some_of false false h = absurd (false≢true h)

none_of : (p q : Bool) → (p || q) ≡ false → cond p 1 0 + cond q 1 0 ≡ 0
none_of true q h = absurd (false≢true (sym h))
none_of false true h = absurd (false≢true (sym h))
none_of false false h = refl

-- every edge counts at least once at each of its ends, a loop twice, and nowhere else
pub ends_at-some : (e : Edge) (v : ℕ) → touches e v ≡ true → 1 ≤ ends_at e v
ends_at-some e v meets = some_of (eqb e.u v) (eqb e.v v) meets

pub ends_at-none : (e : Edge) (v : ℕ) → touches e v ≡ false → ends_at e v ≡ 0
ends_at-none e v misses = none_of (eqb e.u v) (eqb e.v v) misses

times-cond_one : (t : Bool) (c : ℕ) → c * cond t 1 0 ≡ cond t c 0
times-cond_one true c = omega arith
times-cond_one false c = omega arith

-- in a graph without loops the degree is the sum of the counts of the edges at the vertex
pub degree-touches : (g : Multigraph) (counts : List ℕ) (v : ℕ) → HasNoLoop g → degree g counts v ≡ sum_to (λ k. cond (touches (edge_at g k) v) (slice_index counts k) 0) (length g.edges)
degree-touches g counts v plain = sum_to-same (λ k. slice_index counts k * ends_at (edge_at g k) v) (λ k. cond (touches (edge_at g k) v) (slice_index counts k) 0) (length g.edges)
    (λ k b. ap (λ x. slice_index counts k * x) (ends_at-touches (edge_at g k) v (plain k no_edge b)) ∙ times-cond_one (touches (edge_at g k) v) (slice_index counts k))

-- where no edge at a vertex is counted its degree is 0
pub degree-none : (g : Multigraph) (counts : List ℕ) (v : ℕ) → CountsNoneAt g counts v → degree g counts v ≡ 0
degree-none g counts v none =
    sum_to-same (λ k. slice_index counts k * ends_at (edge_at g k) v) (λ _. 0) (length g.edges)
    (λ k b. elim (cases_Bool (touches (edge_at g k) v)) [
      | inl h ↦ rw (none k b h) (omega arith)
      | inr h ↦ rw (ends_at-none (edge_at g k) v h) (omega arith)
    ])
    ∙ sum_to-zero (length g.edges)

-- no edge touches what is no vertex
-- a graph with one edge more
