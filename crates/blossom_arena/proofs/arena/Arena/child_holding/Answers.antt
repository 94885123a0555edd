use Rattle.graph_theory.proofs.Common.{◌≡◌, ◌∙◌, ℕ, List, true, sym, ap, ap₂, subst, length, arith, slice_index, holds}
use Rattle.blossom_arena.specs.Family.{Blossom, names_of, members_of, child_holding, is_vertex}
use Rattle.blossom_arena.specs.Fields.{blossoms_of, climb_to, parent_entry}
use Rattle.blossom_arena.proofs.Nested.{vertex_range, name_is_node}
use Rattle.blossom_arena.proofs.Sets.{member_vertex}
use Rattle.blossom_arena.proofs.Parents.{climb_child}
use Rattle.blossom_arena.proofs.Marks.{entry_low, parent_at}
use Rattle.blossom_arena.proofs.arena.Arena.child_holding.Goals as goal

named : (c : goal.After-number-2) → holds (names_of (blossoms_of c.self.inside)) c.args.b ≡ true
named c = subst (λ f. holds (names_of f.blossoms) c.args.b ≡ true) (sym c.self.view_is) c.requires.blossom

inside : (c : goal.After-number-2) → holds (members_of (blossoms_of c.self.inside) c.args.b) c.args.v ≡ true
inside c = subst (λ f. holds (members_of f.blossoms c.args.b) c.args.v ≡ true) (sym c.self.view_is) c.requires.inside

vertex : (c : goal.After-number-2) → is_vertex c.self.inside.vertex_count c.args.v ≡ true
vertex c =
    member_vertex c.self.inside.vertex_count (blossoms_of c.self.inside) c.args.b c.args.v c.self.invariant.family.nested
    (name_is_node c.self.inside.vertex_count (blossoms_of c.self.inside) c.args.b (named c)) (inside c)

pub child_below-requires-clause-place : goal.child_below-requires-clause-place
child_below-requires-clause-place c = omega (arith, (vertex_range _ c.args.v (vertex c)).1, c.self.invariant.places.parents, c.deref.ensures.len, c.number.ensures)

pub child_below-requires-clause-each : goal.child_below-requires-clause-each
child_below-requires-clause-each c x low =
    let n : ℕ = c.self.inside.vertex_count in
    let bs : List Blossom = blossoms_of c.self.inside in
    let s = c.self.invariant in
    let range = vertex_range n c.args.v (vertex c) in
    let at : slice_index c.deref.result.now x ≡ parent_entry n bs x = ap (λ (ps : List ℕ). slice_index ps x) c.deref.ensures.value
    ∙ s.parents x (omega (arith, low, s.places.parents, c.deref.ensures.len)) in
    omega (arith, at, entry_low n bs x s.family.nested (omega (arith, range.0, range.1)), s.places.parents, c.deref.ensures.len)

pub returns-clause-child : goal.returns-clause-child
returns-clause-child c =
    let n : ℕ = c.self.inside.vertex_count in
    let bs : List Blossom = blossoms_of c.self.inside in
    let s = c.self.invariant in
    let named : holds (names_of bs) c.args.b ≡ true = subst (λ f. holds (names_of f.blossoms) c.args.b ≡ true) (sym c.self.view_is) c.requires.blossom in
    let inside : holds (members_of bs c.args.b) c.args.v ≡ true = subst (λ f. holds (members_of f.blossoms c.args.b) c.args.v ≡ true) (sym c.self.view_is) c.requires.inside in
    let iv = member_vertex n bs c.args.b c.args.v s.family.nested (name_is_node n bs c.args.b named) inside in
    c.new.ensures ∙ c.child_below.ensures ∙ ap (λ (ps : List ℕ). climb_to (length ps) ps c.number-2.result c.number.result) c.deref.ensures.value
    ∙ ap₂ (climb_to (length c.self.inside.parents.items) c.self.inside.parents.items) c.number-2.ensures c.number.ensures
    ∙ climb_child n bs c.self.inside.parents.items c.args.b c.args.v s.family.nested iv named inside (parent_at c.self.inside s) s.places.parents
    ∙ ap (λ f. child_holding f.blossoms c.args.b c.args.v) c.self.view_is
