use Rattle.graph_theory.proofs.Common.{◌∙◌, ℕ, ap₂, arith, holds}
use Rattle.blossom_arena.specs.Family.{Family, names_of}
use Rattle.blossom_arena.specs.Fields.{blossoms_of}
use Rattle.blossom_arena.proofs.Asked.{name_low, name_high}
use Rattle.blossom_arena.proofs.arena.Arena.is_blossom.Goals as goal

pub returns-then-number-self-clause-blossom : goal.returns-then-number-self-clause-blossom
returns-then-number-self-clause-blossom c =
    name_low c.self.inside.vertex_count (blossoms_of c.self.inside) c.number-number.result c.self.invariant.family.nested (omega (arith, c.if-number-self.true))
    ∙ ap₂ (λ (f : Family) (x : ℕ). holds (names_of f.blossoms) x) c.self.view_is c.number-number.ensures

pub returns-clause-blossom : goal.returns-clause-blossom
returns-clause-blossom c =
    c.has_kept.ensures ∙ name_high c.self.inside c.number-number.result c.self.invariant (omega (arith, c.if-number-self.false))
    ∙ ap₂ (λ (f : Family) (x : ℕ). holds (names_of f.blossoms) x) c.self.view_is c.number-number.ensures
