-- The graph of chosen edges, and that of the edges that are lighter than some weight.
use Rattle.mb_problem.proofs.Common.{◌≡◌, ℕ, ◌+◌, ◌-◌, ◌<◌, ℤ, ◌≤ℤ◌, Bool, true, false, refl, ap, sym, ◌∙◌, subst, inr, arith, List}
use Rattle.mb_problem.proofs.Common.{pos, ◌++◌, map, take, [], ◌∷◌, length, get_or, slice_index, All, int_lt, length-map, get_or-map, length-filter, count_by-le-length}
use Rattle.mb_problem.proofs.Common.{All-head, All-tail, All-filter, filter_passes, Edge, Multigraph, HasNoLoop, IsEdgeNumber, IsGraph, IsEdgeWithin, IsWeight, is_loop, edge_of, no_edge}
use Rattle.mb_problem.proofs.Common.{cases_Bool, inl, touches, touches-twin, holds, IsBarrier, holds_place}
use Rattle.mb_problem.proofs.Common.{edge_of-place, number_of-place, barrier_excludes, IsTwin, HasTwin, kept_from as stood_at, kept_at, map_more}
use Rattle.gadget_base.proofs.Common.{IsPerfectList, lighter_than, times_each, perfect_from_list}
use Rattle.bottleneck.specs.Halving.{weightless, chosen, numbers_in, AreLight}
use Rattle.bottleneck.proofs.Loose.{IsLoose}
use Rattle.bottleneck.proofs.Twins.{AreTwins, barrier-twin, perfect-twin, twins-of}

chosen-place : (g : Multigraph) (numbers : List ℕ) (e : ℕ) → IsEdgeNumber (chosen g numbers) e → e - 1 < length numbers
chosen-place g numbers e is = let size = length-map numbers (weightless g) in omega (arith, size, is.0, is.1)

-- the same edge but for its weight is a twin
same-twin : (a b : Multigraph) (e f : ℕ) (x : Edge) → IsEdgeNumber b f → edge_of b f ≡ x → x.u ≡ (edge_of a e).u → x.v ≡ (edge_of a e).v → IsTwin a b e f
same-twin a b e f x is same u v = record { is_edge = is; u = ap (λ (y : Edge). y.u) same ∙ u; v = ap (λ (y : Edge). y.v) same ∙ v }

-- .. and a twin's twin is one
twin-through : (a b c : Multigraph) (e f : ℕ) → IsTwin a b e f → HasTwin b c f → HasTwin a c e
twin-through a b c e f t next = (next.0, record { is_edge = next.1.is_edge; u = next.1.u ∙ t.u; v = next.1.v ∙ t.v })

-- a chosen edge is one of the graph
chosen-twin : (g : Multigraph) (numbers : List ℕ) (e : ℕ) → All (IsEdgeNumber g) numbers → IsEdgeNumber (chosen g numbers) e
    → IsTwin (chosen g numbers) g e (slice_index numbers (e - 1))
chosen-twin g numbers e all is =
    let below = chosen-place g numbers e is in
    let same = get_or-map (weightless g) numbers (e - 1) 0 no_edge below in
    record { is_edge = all (e - 1) 0 below; u = sym (ap (λ (x : Edge). x.u) same); v = sym (ap (λ (x : Edge). x.v) same) }

-- the other way round
held-twin : (g : Multigraph) (numbers : List ℕ) (e : ℕ) → holds numbers e ≡ true → HasTwin g (chosen g numbers) e
held-twin g numbers e h =
    let place = holds_place numbers e h in
    let size = length-map numbers (weightless g) in
    let same : edge_of (chosen g numbers) (place.0 + 1) ≡ weightless g e =
    edge_of-place (chosen g numbers) place.0 ∙ get_or-map (weightless g) numbers place.0 0 no_edge place.1 ∙ ap (weightless g) place.2 in
    (place.0 + 1, same-twin g (chosen g numbers) e (place.0 + 1) (weightless g e) (omega arith, omega (arith, size, place.1)) same refl refl)

-- the light edges are edges
pub chosen-numbers : (g : Multigraph) (w : ℤ) (numbers : List ℕ) → AreLight g w (length g.edges) numbers → All (IsEdgeNumber g) numbers
chosen-numbers g w numbers are = λ k d b. (are.each k d b).0

-- a perfect matching of chosen edges, by their numbers in the graph

twins_in : (g : Multigraph) (numbers es : List ℕ) → All (IsEdgeNumber g) numbers → All (IsEdgeNumber (chosen g numbers)) es → AreTwins (chosen g numbers) g es (numbers_in numbers es)
twins_in g numbers [] all h = tt
twins_in g numbers (e ∷ es) all h =
    let P = IsEdgeNumber (chosen g numbers) in
    (chosen-twin g numbers e all (All-head P e es h), twins_in g numbers es all (All-tail P e es h))

pub chosen-perfect : (g : Multigraph) (numbers es : List ℕ) → All (IsEdgeNumber g) numbers → IsPerfectList (chosen g numbers) es → IsPerfectList g (numbers_in numbers es)
chosen-perfect g numbers es all perfect = perfect-twin (chosen g numbers) g es (numbers_in numbers es) refl (twins_in g numbers es all perfect.numbers) perfect

-- one edge more is chosen
pub chosen-more : (g : Multigraph) (numbers : List ℕ) (k e u v : ℕ) (old new : Multigraph) → k < length numbers → old ≡ chosen g (take k numbers) → e ≡ get_or numbers k e
    → u ≡ (edge_of g e).u → v ≡ (edge_of g e).v → new ≡ record old { edges = old.edges ++ record { u = u; v = v; w = pos 0 } ∷ [] }
    → new ≡ chosen g (take (k + 1) numbers)
chosen-more g numbers k e u v old new inside so_far is from to longer =
    let before : List Edge = map (weightless g) (take k numbers) in
    let one : Edge = record { u = u; v = v; w = pos 0 } in
    let next : one ≡ weightless g e = rw (from, to) refl in
    let whole : List Edge → Multigraph = λ es. record { vertices = g.vertices; edges = es } in
    longer
    ∙ ap (λ (h : Multigraph). record h { edges = h.edges ++ one ∷ [] }) so_far
    ∙ ap (λ (x : Edge). whole (before ++ x ∷ [])) (next ∙ ap (weightless g) is)
    ∙ ap whole (sym (map_more (weightless g) numbers k e inside))

-- no chosen edge is a loop
pub chosen-plain : (g : Multigraph) (numbers : List ℕ) → HasNoLoop g → All (IsEdgeNumber g) numbers → HasNoLoop (chosen g numbers)
chosen-plain g numbers plain all = λ k d b.
    let size = length-map numbers (weightless g) in
    let below : k < length numbers = omega (arith, size, b) in
    let e = get_or numbers k 0 in
    let is : IsEdgeNumber g e = all k 0 below in
    subst (λ (x : Edge). is_loop x ≡ false) (sym (get_or-map (weightless g) numbers k 0 d below)) (plain (e - 1) no_edge (omega (arith, is.0, is.1)))

-- what holds of all numbers holds of these
pub chosen-all : (P : ℕ → Type 0) (g : Multigraph) (numbers es : List ℕ) → All P numbers → All (IsEdgeNumber (chosen g numbers)) es → All P (numbers_in numbers es)
chosen-all P g numbers es all h = λ k d b.
    let size = length-map es (λ e. slice_index numbers (e - 1)) in
    let below : k < length es = omega (arith, size, b) in
    subst P (sym (get_or-map (λ e. slice_index numbers (e - 1)) es k 0 d below))
    (all (get_or es k 0 - 1) 0 (chosen-place g numbers (get_or es k 0) (h k 0 below)))

-- an edge that passes stands somewhere among those that pass, and each of these stood somewhere

-- an edge of the graph that is lighter is one of the lighter edges
lighter-twin : (g : Multigraph) (w : ℤ) (e : ℕ) → IsEdgeNumber g e → int_lt (edge_of g e).w w ≡ true → HasTwin g (lighter_than w g) e
lighter-twin g w e is light =
    let h = lighter_than w g in
    let there = kept_at (λ x. int_lt x.w w) g.edges (e - 1) (omega (arith, is.0, is.1)) light in
    (there.0 + 1, same-twin g h e (there.0 + 1) (edge_of g e) (number_of-place h there.0 there.1) (edge_of-place h there.0 ∙ there.2) refl refl)

-- and each of these is a lighter edge of the graph
record IsLighter (g : Multigraph) (w : ℤ) (f : ℕ) : Type 0 where
  number : ℕ
  twin : IsTwin (lighter_than w g) g f number
  light : int_lt (edge_of g number).w w ≡ true

lighter-of : (g : Multigraph) (w : ℤ) (f : ℕ) → IsEdgeNumber (lighter_than w g) f → IsLighter g w f
lighter-of g w f is =
    let h = lighter_than w g in
    let b : f - 1 < length h.edges = omega (arith, is.0, is.1) in
    let there = stood_at (λ x. int_lt x.w w) g.edges (f - 1) b in
    let same : edge_of g (there.0 + 1) ≡ edge_of h f = edge_of-place g there.0 ∙ there.2 in
    record {
      number = there.0 + 1;
      twin = same-twin h g f (there.0 + 1) (edge_of h f) (number_of-place g there.0 there.1) same refl refl;
      light = ap (λ (x : Edge). int_lt x.w w) same ∙ filter_passes (λ x. int_lt x.w w) g.edges (f - 1) no_edge b;
    }

-- no lighter edge has an end at a vertex whose edges aren't lighter
pub lighter-loose : (g : Multigraph) (w : ℤ) (v : ℕ) → ((e : ℕ) → IsEdgeNumber g e → touches (edge_of g e) v ≡ true → int_lt (edge_of g e).w w ≡ true → ⊥)
    → IsLoose (lighter_than w g) v
lighter-loose g w v none f is =
    elim (cases_Bool (touches (edge_of (lighter_than w g) f) v)) [
      | inl on ↦ absurd (
          let there = lighter-of g w f is in
          let same = touches-twin (edge_of (lighter_than w g) f) (edge_of g there.number) v there.twin.u there.twin.v in
          none there.number there.twin.is_edge (same ∙ on) there.light)
      | inr off ↦ off
    ]

-- where the edges of at most w are those that are lighter than x, a barrier of the former is one of the latter
pub bars-lighter : (g : Multigraph) (w x : ℤ) (numbers set : List ℕ) → AreLight g w (length g.edges) numbers
    → ((e : ℕ) → IsEdgeNumber g e → (edge_of g e).w ≤ℤ w → int_lt (edge_of g e).w x ≡ true)
    → ((e : ℕ) → IsEdgeNumber g e → int_lt (edge_of g e).w x ≡ true → (edge_of g e).w ≤ℤ w) → IsBarrier (chosen g numbers) set → IsBarrier (lighter_than x g) set
bars-lighter g w x numbers set are below above =
    let part = chosen g numbers in
    let h = lighter_than x g in
    barrier-twin part h set record {
      vertices = refl;
      there = λ e is. inr (
          let k = slice_index numbers (e - 1) in
          let here = chosen-twin g numbers e (chosen-numbers g w numbers are) is in
          twin-through part g h e k here (lighter-twin g x k here.is_edge (below k here.is_edge (are.each (e - 1) 0 (chosen-place g numbers e is)).1)));
      back = λ f is. inr (
          let here = lighter-of g x f is in
          let n = here.number in
          let is_edge = here.twin.is_edge in
          twin-through h g part f n here.twin (held-twin g numbers n (are.whole n is_edge.0 is_edge.1 (above n is_edge here.light))));
    }

-- where all edges are chosen a barrier of these is one of the graph
pub bars-whole : (g : Multigraph) (w : ℤ) (numbers set : List ℕ) → AreLight g w (length g.edges) numbers → ((e : ℕ) → IsEdgeNumber g e → (edge_of g e).w ≤ℤ w)
    → IsBarrier (chosen g numbers) set → IsBarrier g set
bars-whole g w numbers set are all =
    barrier-twin (chosen g numbers) g set record {
      vertices = refl;
      there = λ e is. inr (slice_index numbers (e - 1), chosen-twin g numbers e (chosen-numbers g w numbers are) is);
      back = λ e is. inr (held-twin g numbers e (are.whole e is.0 is.1 (all e is)));
    }

-- the lighter edges make a graph
pub lighter-graph : (g : Multigraph) (w : ℤ) → IsGraph g → IsGraph (lighter_than w g)
lighter-graph g w good =
    let p : Edge → Bool = λ x. int_lt x.w w in
    record {
      few_vertices = good.few_vertices;
      few_edges = omega (arith, good.few_edges, length-filter p g.edges, count_by-le-length p g.edges);
      ends = All-filter p (IsEdgeWithin g.vertices) g.edges good.ends;
      weights = All-filter p (λ x. IsWeight x.w) g.edges good.weights;
    }

-- a barrier of the lighter edges excludes perfect matchings of lighter edges
pub not_all_lighter : (g : Multigraph) (w : ℤ) (set es : List ℕ) → IsGraph g → HasNoLoop g → IsBarrier (lighter_than w g) set → IsPerfectList g es
    → All (λ e. int_lt (edge_of g e).w w ≡ true) es → ⊥
not_all_lighter g w set es good plain barrier perfect light =
    let h = lighter_than w g in
    let p : Edge → Bool = λ x. int_lt x.w w in
    let graph : IsGraph h = lighter-graph g w good in
    let list = twins-of g h es (λ k d b. lighter-twin g w (get_or es k d) (perfect.numbers k d b) (light k d b)) in
    let there = perfect_from_list h list.0 graph.ends (All-filter p (λ x. is_loop x ≡ false) g.edges plain) (perfect-twin g h es list.0 refl list.1 perfect) in
    barrier_excludes h set (times_each h list.0) graph barrier there
