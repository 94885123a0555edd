use Rattle.graph_theory.proofs.Common.{◌+◌, ◌*◌, ◌≤◌}
use Rattle.array_joins.proofs.rounds.GuessTables.run.Given as goal

abbrev pub invariant-loop : goal.invariant-loop
invariant-loop g l = record { paid : 2 * l.steps + l.budget ≤ 2 * l.initial.steps + l.initial.budget }
