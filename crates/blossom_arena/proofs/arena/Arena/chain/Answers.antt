use Rattle.graph_theory.proofs.Common.{◌≡◌, ◌∙◌, ℕ, List, true, sym, ap, subst, length, arith}
use Rattle.blossom_arena.specs.Family.{is_vertex, chain_of}
use Rattle.blossom_arena.specs.Fields.{blossoms_of, climb, CanClimb}
use Rattle.blossom_arena.proofs.Nested.{blossoms_few}
use Rattle.blossom_arena.proofs.Parents.{can_climb, climb_chain}
use Rattle.blossom_arena.proofs.Marks.{parent_at}
use Rattle.blossom_arena.proofs.arena.Arena.chain.Goals as goal

pub of-requires : goal.of-requires
of-requires c =
    let iv = subst (λ f. is_vertex f.vertex_count c.args.v ≡ true) (sym c.self.view_is) c.requires in
    let s = c.self.invariant in
    subst (λ (ps : List ℕ). CanClimb ps c.number.result) (sym c.deref.ensures.value)
    (subst (CanClimb c.self.inside.parents.items) (sym c.number.ensures)
    (can_climb c.self.inside.vertex_count (blossoms_of c.self.inside) c.self.inside.parents.items c.args.v s.family.nested iv (parent_at c.self.inside s) s.places.parents))

pub returns-clause-chain : goal.returns-clause-chain
returns-clause-chain c =
    let iv = subst (λ f. is_vertex f.vertex_count c.args.v ≡ true) (sym c.self.view_is) c.requires in
    let s = c.self.invariant in
    let n : ℕ = c.self.inside.vertex_count in
    c.of.ensures ∙ ap (λ (ps : List ℕ). climb (length ps) ps c.number.result) c.deref.ensures.value
    ∙ ap (climb (length c.self.inside.parents.items) c.self.inside.parents.items) c.number.ensures
    ∙ climb_chain n (length c.self.inside.parents.items) (blossoms_of c.self.inside) c.self.inside.parents.items c.args.v s.family.nested iv (parent_at c.self.inside s)
    (omega (arith, blossoms_few n (blossoms_of c.self.inside) s.family.nested, s.places.parents))
    ∙ ap (λ f. chain_of f.blossoms c.args.v) c.self.view_is
