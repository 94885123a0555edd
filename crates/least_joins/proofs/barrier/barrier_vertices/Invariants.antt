use Rattle.graph_theory.proofs.Common.{◌≡◌, holds}
use Rattle.graph_theory.proofs.Passing.{passing}
use Rattle.least_joins.proofs.barrier.barrier_vertices.Given as goal

abbrev pub invariant-loop-place : goal.invariant-loop-place
invariant-loop-place l = l.vertices.items ≡ passing (holds l.engine.barrier) l.place
