use Rattle.graph_theory.proofs.Common.{◌≡◌}
use Rattle.graph_theory.proofs.Passing.{passing}
use Rattle.least_joins.proofs.MatchedEdges.{is_in}
use Rattle.least_joins.proofs.matched.matching.Given as goal

abbrev pub invariant-loop-place : goal.invariant-loop-place
invariant-loop-place l = l.edges.items ≡ passing (is_in l.graph l.engine.mates) l.place
