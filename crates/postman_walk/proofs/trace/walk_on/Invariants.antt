use Rattle.mb_problem.proofs.Common.{◌≡◌, ◌+◌, ◌*◌, ◌≤◌, length, slice_index, sum_to, ArePassed}
use Rattle.postman_walk.proofs.TracingLemmas.{IsTracing}
use Rattle.postman_walk.proofs.trace.walk_on.Given as goal

abbrev pub invariant-walk : goal.invariant-walk
invariant-walk l = record {
  size : length l.left ≡ length l.graph.edges;
  here : l.here ≤ l.graph.vertices;
  passed : ArePassed l.graph l.left l.cursors;
  tracing : IsTracing l.graph l.initial.left l.left l.fn.start l.here l.opened.items l.finished.items;
}

abbrev pub decreases-walk : goal.decreases-walk
decreases-walk l = 2 * sum_to (slice_index l.left) (length l.graph.edges) + length l.opened.items
