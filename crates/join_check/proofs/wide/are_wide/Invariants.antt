use Rattle.mb_problem.proofs.Common.{ℕ, ◌<◌, slice_index, edge_at, graph_of}
use Rattle.join_check.specs.Checks.{IsWideBy}
use Rattle.join_check.proofs.wide.are_wide.Given as goal

abbrev pub invariant-loop-place : goal.invariant-loop-place
invariant-loop-place l = (k : ℕ) → k < l.place → IsWideBy l.tops l.befores l.nodes l.depths (edge_at (graph_of l.instance) k) (slice_index l.meets k)
