use Rattle.graph_theory.proofs.Common.{◌≡◌, drop}
use Rattle.alt_forest.proofs.slack.shortened.Given as goal

abbrev pub invariant-loop : goal.invariant-loop
invariant-loop l = l.rest ≡ drop l.counter l.fn.chain
