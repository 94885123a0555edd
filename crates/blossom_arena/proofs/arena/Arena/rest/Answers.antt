use Rattle.graph_theory.proofs.Common.{◌∙◌}
use Rattle.blossom_arena.proofs.Changed.{motions_sound}
use Rattle.blossom_arena.proofs.arena.Arena.rest.Goals as goal

pub invariant_of-self : goal.invariant_of-self
invariant_of-self c =
    motions_sound c.self.inside c.self.invariant c.rest.new.self c.rest.ensures.values
    (record { one_each = c.rest.ensures.len ∙ c.self.invariant.family.motions.one_each; inside = λ a e. c.rest.ensures.motions a })

pub returns-clause-is_family : goal.returns-clause-is_family
returns-clause-is_family c = (invariant_of-self c).family
