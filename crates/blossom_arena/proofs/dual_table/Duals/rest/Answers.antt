use Rattle.graph_theory.proofs.Common.{◌≤◌, ◌<◌, ⊎_elim, arith, cases_lt, get_or_past}
use Rattle.blossom_arena.specs.declared.label.Label.TheVariants.{Out}
use Rattle.blossom_arena.proofs.dual_table.Duals.rest.Goals as goal

pub returns-clause-motions : goal.returns-clause-motions
returns-clause-motions c = λ a. ⊎_elim
    (λ (low : a < c.loop-place.place). c.loop-place.invariant.done a low)
    (λ (high : c.loop-place.place ≤ a). get_or_past c.loop-place.self.motions a Out
    (omega (arith, high, c.loop-place-test.false, c.len-place-end.ensures.motions, c.loop-place.invariant.len)))
    (cases_lt a c.loop-place.place)
