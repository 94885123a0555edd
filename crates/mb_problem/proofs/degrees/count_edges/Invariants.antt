use Rattle.graph_theory.proofs.Common.{◌≡◌, ℕ, ◌+◌, ◌*◌, ◌<◌, ◌≤◌, length, slice_index, replicate, sum_to, edge_at, ends_at}
use Rattle.mb_problem.specs.Network.{graph_of, vertices}
use Rattle.mb_problem.proofs.degrees.count_edges.Given as goal

abbrev pub invariant-loop-edge : goal.invariant-loop-edge
invariant-loop-edge l = record {
  size : length l.degrees ≡ length l.fn.degrees;
  each : (v : ℕ) → v < vertices l.instance → slice_index l.degrees v ≡ sum_to (λ j. slice_index (replicate (length l.instance.edges) 1) j * ends_at (edge_at (graph_of l.instance) j)
      (v + 1)) l.edge-index;
  value_limit : (v : ℕ) → v < length l.degrees → slice_index l.degrees v ≤ 2 * l.edge-index;
}
