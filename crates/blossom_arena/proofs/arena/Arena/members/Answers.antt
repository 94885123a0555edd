use Rattle.graph_theory.proofs.Common.{◌∙◌, ℕ, ap₂}
use Rattle.blossom_arena.specs.Family.{members_of, Family}
use Rattle.blossom_arena.proofs.Sound.{read_within, read_members}
use Rattle.blossom_arena.proofs.arena.Arena.members.Goals as goal

pub of-requires : goal.of-requires
of-requires c =
    read_within c.self.inside _ c.args.node c.number.result c.self.invariant c.self.view_is c.requires c.number.ensures c.deref.result.now c.find_run.result c.deref.ensures.value
    c.find_run.ensures

pub returns-clause-members : goal.returns-clause-members
returns-clause-members c =
    c.of.ensures ∙ read_members c.self.inside _ c.args.node c.number.result c.self.invariant c.self.view_is c.requires c.number.ensures c.deref.result.now c.find_run.result
    c.deref.ensures.value c.find_run.ensures
    ∙ ap₂ (λ (f : Family) (x : ℕ). members_of f.blossoms x) c.self.view_is c.number.ensures
