use Rattle.mb_problem.proofs.Common.{◌≡◌, ◌+◌, ◌≤◌}
use Rattle.gadget_base.proofs.Common.{tabled}
use Rattle.array_joins.specs.Sets.{set_at}
use Rattle.array_joins.specs.Outcomes.{AnswersEach, steps_before}
use Rattle.array_joins.proofs.joining.answer_each.Given as goal

abbrev pub invariant-loop-k : goal.invariant-loop-k
invariant-loop-k g l = record {
  same : l.instance ≡ l.initial.instance;
  answers : AnswersEach l.initial.instance (tabled (set_at l.starts l.terminals) l.k) l.outcomes.items;
  steps : l.steps ≤ l.initial.steps + steps_before l.initial.instance l.starts l.terminals l.k;
}
