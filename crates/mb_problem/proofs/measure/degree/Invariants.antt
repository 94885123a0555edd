use Rattle.graph_theory.proofs.Common.{◌≡◌, ◌*◌, ◌≤◌, ◌^◌, slice_index, sum_to, edge_at, ends_at}
use Rattle.mb_problem.specs.Network.{graph_of}
use Rattle.mb_problem.proofs.measure.degree.Given as goal

abbrev pub invariant-loop-k : goal.invariant-loop-k
invariant-loop-k l = record {
  sum : l.total ≡ sum_to (λ j. slice_index l.counts j * ends_at (edge_at (graph_of l.instance) j) l.v) l.k;
  value_limit : l.total ≤ 2 ^ 33 * l.k;
}
