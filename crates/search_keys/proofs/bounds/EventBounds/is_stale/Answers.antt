use Rattle.alt_forest.proofs.Common.{◌≡◌, ◌∙◌, ◌≢◌, ℕ, ◌<◌, pos, length, Some, vec_len, get_or, sym, ap, ap₂, subst, rules, arith, to_z, of_z, get_or_read, w64}
use Rattle.alt_forest.proofs.Common.{lt_z, edge_of, other_end, state_of, true, Multigraph, IsEdgeNumber, IsWeight, edge_of-weight, is_vertex}
use Rattle.alt_forest.proofs.Common.{edge_of_within, other_end-within, range_vertex}
use Rattle.search_keys.specs.declared.bounds.EventBounds.{EventBounds}
use Rattle.search_keys.specs.Bounds.{HasHints, hint_of, kept_key, key_from}
use Rattle.search_keys.specs.Looks.{is_stale}
use Rattle.search_keys.specs.Keys.{IsApart, IsKeyTo}
use Rattle.search_keys.proofs.Gives.{key_none, key_there, stale_test}
use Rattle.search_keys.proofs.Lowered.{hint_place, key_place}
use Rattle.search_keys.proofs.bounds.EventBounds.is_stale.Goals as goal

pub returns-in-Some : goal.returns-in-Some
returns-in-Some c =
    let s = c.args.search.now in let b = c.args.self.now in let v : ℕ = c.args.v in let e : ℕ = hint_of b v in
    let back : to_z w64 (of_z w64 c.in-Some.key) ≡ c.in-Some.key = search rules in
    let kept : to_z w64 (of_z w64 c.index.result.now) ≡ c.index.result.now = search rules in
    let weighs : to_z w64 (of_z w64 c.edge-weight.result.2) ≡ c.edge-weight.result.2 = search rules in
    let at : c.number-in-Some.result ≡ v = c.number-in-Some.ensures in let size : vec_len b.keys ≡ length b.keys.items = search rules in
    let low : v < length b.keys.items = omega (arith, size, key_place s.graph b v c.requires.vertex_keys.places c.requires.vertex) in
    let is : c.index.result.now ≡ kept_key b v =
    get_or_read b.keys.items v c.index.result.now low (c.index.ensures ∙ ap (λ (i : ℕ). get_or b.keys.items i c.index.result.now) at) (pos 0) in
    let some : e ≢ 0 = λ none. c.if-number-eq0.false (c.number.ensures ∙ c.hint-edge.ensures ∙ none) in let far : ℕ = c.other_end-far.result in
    let end : other_end (edge_of s.graph e) v ≡ far = ap (λ (d : ℕ). other_end (edge_of s.graph d) v) (sym c.hint-edge.ensures) ∙ sym c.other_end-far.ensures.end in
    let weight : c.edge-weight.result.2 ≡ (edge_of s.graph e).w = c.edge-weight.ensures.weight ∙ ap (λ (d : ℕ). (edge_of s.graph d).w) c.hint-edge.ensures in
    let to : IsKeyTo (state_of s) s.clock c.outermost.result far (to_z w64 (of_z w64 c.edge-weight.result.2)) (Some c.in-Some.key) = c.in-Some.ensures in
    let gives = stale_test (state_of s) s.clock e v far (kept_key b v) c.in-Some.key end
    (subst (λ (a : ℕ). IsApart (state_of s) a far) c.outermost.ensures.node to.0) (to.1 ∙ ap (key_from (state_of s) s.clock far) (weighs ∙ weight)) in
    ap₂ lt_z (kept ∙ is) back ∙ sym gives ∙ sym (ap (is_stale (state_of s) s.clock e v) (key_there b v some))

pub hint-edge-requires : goal.hint-edge-requires
hint-edge-requires c = hint_place c.args.search.now.graph c.args.self.now c.args.v c.requires.vertex_keys.places c.requires.vertex

pub returns-then-number-eq0 : goal.returns-then-number-eq0
returns-then-number-eq0 c =
    let s = c.args.search.now in
    sym (ap (is_stale (state_of s) s.clock (hint_of c.args.self.now c.args.v) c.args.v)
    (key_none c.args.self.now c.args.v (sym c.hint-edge.ensures ∙ sym c.number.ensures ∙ c.if-number-eq0.true)))

-- the edge that gave a vertex its key
hint_edge : (g : Multigraph) (b : EventBounds) (v e : ℕ) → HasHints g b → is_vertex g.vertices v ≡ true → e ≡ hint_of b v → e ≢ 0 → IsEdgeNumber g e
hint_edge g b v e hints vertex is some = subst (IsEdgeNumber g) (sym is) (hints v vertex (λ none. some (is ∙ none))).0

pub edge-weight-requires : goal.edge-weight-requires
edge-weight-requires c = hint_edge c.args.search.now.graph c.args.self.now c.args.v c.hint-edge.result c.requires.vertex_keys.hints c.requires.vertex c.hint-edge.ensures
    (λ none. c.if-number-eq0.false (c.number.ensures ∙ none))

pub other_end-far-requires : goal.other_end-far-requires
other_end-far-requires c = hint_edge c.args.search.now.graph c.args.self.now c.args.v c.hint-edge.result c.requires.vertex_keys.hints c.requires.vertex c.hint-edge.ensures
    (λ none. c.if-number-eq0.false (c.number.ensures ∙ none))

pub outermost-requires : goal.outermost-requires
outermost-requires c = rw c.requires.sound.shape.arena c.requires.vertex

pub key_to-requires-clause-weight : goal.key_to-requires-clause-weight
key_to-requires-clause-weight c =
    let g = c.args.search.now.graph in let weighs : to_z w64 (of_z w64 c.edge-weight.result.2) ≡ c.edge-weight.result.2 = search rules in
    let number = hint_edge g c.args.self.now c.args.v c.hint-edge.result c.requires.vertex_keys.hints c.requires.vertex c.hint-edge.ensures
    (λ none. c.if-number-eq0.false (c.number.ensures ∙ none)) in
    subst IsWeight (sym (weighs ∙ c.edge-weight.ensures.weight)) (edge_of-weight g c.hint-edge.result c.edge-weight.ensures.graph number)

pub index-requires : goal.index-requires
index-requires c = omega (arith, c.number-in-Some.ensures, key_place c.args.search.now.graph c.args.self.now c.args.v c.requires.vertex_keys.places c.requires.vertex)

pub key_to-requires-clause-vertex : goal.key_to-requires-clause-vertex
key_to-requires-clause-vertex c =
    let g = c.args.search.now.graph in let e = c.hint-edge.result in
    let number = hint_edge g c.args.self.now c.args.v e c.requires.vertex_keys.hints c.requires.vertex c.hint-edge.ensures (λ none. c.if-number-eq0.false (c.number.ensures ∙ none)) in
    let within = other_end-within g.vertices (edge_of g e) c.args.v (edge_of_within g e c.requires.sound.shape.graph.graph.ends number) in
    subst (λ (x : ℕ). is_vertex g.vertices x ≡ true) (sym c.other_end-far.ensures.end) (range_vertex g.vertices (other_end (edge_of g e) c.args.v) within.0 within.1)
