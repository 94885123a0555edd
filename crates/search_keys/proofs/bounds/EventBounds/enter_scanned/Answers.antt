use Rattle.alt_forest.proofs.Common.{◌≡◌, ◌∙◌, ℕ, ◌+◌, ◌<◌, true, refl, All, List, ◌∷◌, length, get_or, drop, add-one, sym, ap, ap₂, subst, arith, get_or_read}
use Rattle.alt_forest.proofs.Common.{drop_all, is_vertex, state_of}
use Rattle.std.proofs.Math.Seq.{drop-cons}
use Rattle.search_keys.specs.declared.bounds.EventBounds.{EventBounds}
use Rattle.search_keys.specs.Bounds.{IsBoundingBut}
use Rattle.search_keys.specs.Looks.{ends_outer}
use Rattle.search_keys.proofs.Counted.{outer_most, outer_next}
use Rattle.search_keys.proofs.Lowered.{bounding_less, enter_stale}
use Rattle.search_keys.proofs.bounds.EventBounds.enter_scanned.Goals as goal

-- a vertex that has been noted
vertex_at : (n : ℕ) (items : List ℕ) (place v : ℕ) → All (λ (x : ℕ). is_vertex n x ≡ true) items → place < length items → v ≡ get_or items place v →
    is_vertex n v ≡ true
vertex_at n items place v all low is = subst (λ (x : ℕ). is_vertex n x ≡ true) (sym is) (all place v low)

pub loop-place-preserved : goal.loop-place-preserved
loop-place-preserved g c =
    let s = c.args.search.now in let items : List ℕ = s.scanned.items in let place : ℕ = c.loop-place.place in let v : ℕ = c.index-v.result.now in
    let i = c.loop-place.invariant in let b : EventBounds = c.loop-place.self in
    let given : EventBounds = c.give_around.new.self in let entered : EventBounds = c.enter.new.self in
    let low : place < length items = omega (arith, c.loop-place-test.true, c.len-place-end.ensures) in
    let is : v ≡ get_or items place 0 = get_or_read items place v low c.index-v.ensures 0 in
    let vertex : is_vertex s.graph.vertices v ≡ true = subst (λ (x : ℕ). is_vertex s.graph.vertices x ≡ true) (sym is) (c.requires.vertices place 0 low) in
    let step : drop place items ≡ v ∷ drop (place + 1) items = drop-cons items place 0 low ∙ ap₂ (λ (x k : ℕ). x ∷ drop k items) (sym is) (sym (add-one place)) in
    let call = c.enter.ensures in
    record {
      vertex_keys = bounding_less s b given entered v (drop (place + 1) items) c.requires.sound.shape vertex (subst (IsBoundingBut s b) step i.vertex_keys) c.give_around.ensures.lowered
          c.give_around.ensures.given call.frame call.places call.entered call.others;
      edge_ends = omega (arith, c.give_around.ensures.inspections, i.edge_ends, ap (ends_outer (state_of s)) step, outer_next (state_of s) v (drop (place + 1) items));
      known_keys = λ x there h. enter_stale s given entered v call.frame call.places call.entered call.others x ∙ c.give_around.ensures.lowered.known_keys x there (i.known_keys x there h);
    }

pub returns-clause-inspections : goal.returns-clause-inspections
returns-clause-inspections g c = omega (arith, c.loop-place.invariant.edge_ends, outer_most (state_of c.args.search.now) c.args.search.now.scanned.items)

pub loop-place-init : goal.loop-place-init
loop-place-init g c = record { vertex_keys = c.requires.vertex_keys; edge_ends = refl; known_keys = λ v there h. h }

pub give_around-requires-clause-vertex : goal.give_around-requires-clause-vertex
give_around-requires-clause-vertex g c = vertex_at c.args.search.now.graph.vertices c.args.search.now.scanned.items c.loop-place.place c.index-v.result.now c.requires.vertices
    (omega (arith, c.loop-place-test.true, c.len-place-end.ensures)) c.index-v.ensures

pub give_around-requires-clause-places : goal.give_around-requires-clause-places
give_around-requires-clause-places g c = c.loop-place.invariant.vertex_keys.places

pub give_around-requires-clause-hints : goal.give_around-requires-clause-hints
give_around-requires-clause-hints g c = c.loop-place.invariant.vertex_keys.hints

pub enter-requires-clause-vertex : goal.enter-requires-clause-vertex
enter-requires-clause-vertex g c = vertex_at c.args.search.now.graph.vertices c.args.search.now.scanned.items c.loop-place.place c.index-v.result.now c.requires.vertices
    (omega (arith, c.loop-place-test.true, c.len-place-end.ensures)) c.index-v.ensures

pub enter-requires-clause-places : goal.enter-requires-clause-places
enter-requires-clause-places g c = c.give_around.ensures.lowered.places

pub enter-requires-clause-hints : goal.enter-requires-clause-hints
enter-requires-clause-hints g c = c.give_around.ensures.lowered.hints

pub loop-place-smaller : goal.loop-place-smaller
loop-place-smaller g c = omega (arith, c.loop-place-test.true)

pub returns-clause-vertex_keys : goal.returns-clause-vertex_keys
returns-clause-vertex_keys g c =
    let s = c.args.search.now in
    let none = drop_all c.loop-place.place s.scanned.items (omega (arith, c.loop-place-test.false, c.len-place-end.ensures)) in
    subst (IsBoundingBut s c.loop-place.self) none c.loop-place.invariant.vertex_keys

pub returns-clause-edge_ends : goal.returns-clause-edge_ends
returns-clause-edge_ends g c =
    let s = c.args.search.now in
    let none = drop_all c.loop-place.place s.scanned.items (omega (arith, c.loop-place-test.false, c.len-place-end.ensures)) in
    omega (arith, c.loop-place.invariant.edge_ends, ap (ends_outer (state_of s)) none)

pub returns-clause-known_keys : goal.returns-clause-known_keys
returns-clause-known_keys g c = c.loop-place.invariant.known_keys
