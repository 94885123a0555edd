use Rattle.walk_tests.proofs.tests.odd_joins.joined.Given as goal

abbrev pub invariant-loop-number : goal.invariant-loop-number
invariant-loop-number l = Unit {0}
