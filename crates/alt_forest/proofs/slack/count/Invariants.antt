use Rattle.graph_theory.proofs.Common.{◌≡◌, ◌+◌, length}
use Rattle.alt_forest.proofs.slack.count.Given as goal

abbrev pub invariant-loop : goal.invariant-loop
invariant-loop l = l.nodes + length l.iterator' ≡ length l.fn.chain
