use Rattle.graph_theory.proofs.Common.{◌≡◌, ◌∙◌, sym, subst, rules, to_z, of_z, w64, IsNumber}
use Rattle.blossom_arena.proofs.Held.{dual_number}
use Rattle.alt_forest.proofs.slack.dual_or_zero.Goals as goal

pub returns-in-Some-clause-in_range : goal.returns-in-Some-clause-in_range
returns-in-Some-clause-in_range c =
    let kept : to_z w64 (of_z w64 c.dual.result) ≡ c.dual.result = search rules in
    subst IsNumber (sym (kept ∙ c.dual.ensures.dual)) (dual_number c.args.arena.now.duals c.in-Some.node c.dual.ensures.is_family.duals.in_range)
