use Rattle.graph_theory.proofs.Common.{◌≡◌, ℕ, ◌+◌, ◌*◌, ◌<◌, ◌≤◌, ◌^◌, length, slice_index, sum_to, edge_at, ends_at}
use Rattle.mb_problem.specs.Network.{graph_of, vertices}
use Rattle.mb_problem.proofs.degrees.add_counts.Given as goal

abbrev pub invariant-loop-k : goal.invariant-loop-k
invariant-loop-k l = record {
  one_each : length l.degrees ≡ vertices l.instance;
  each : (v : ℕ) → v < vertices l.instance → slice_index l.degrees v ≡ sum_to (λ j. slice_index l.counts j * ends_at (edge_at (graph_of l.instance) j) (v + 1)) l.k;
  value_limit : (v : ℕ) → v < vertices l.instance → slice_index l.degrees v ≤ 2 ^ 33 * l.k;
}
