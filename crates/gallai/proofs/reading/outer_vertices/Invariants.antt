use Rattle.graph_theory.proofs.Common.{◌≡◌, holds}
use Rattle.graph_theory.proofs.Passing.{passing}
use Rattle.gallai.proofs.reading.outer_vertices.Given as goal

abbrev pub invariant-loop-place : goal.invariant-loop-place
invariant-loop-place l = l.vertices.items ≡ passing (holds l.engine.outer) l.place
