use Rattle.graph_theory.proofs.Common.{◌≡◌, ◌≤◌, length, take, int_lt, filter}
use Rattle.cert_check.proofs.lighter.lighter.Given as goal

abbrev pub invariant-loop-edge : goal.invariant-loop-edge
invariant-loop-edge l = record {
  light : l.light ≡ record { vertices = l.graph.vertices; edges = filter (λ e. int_lt e.w l.weight) (take l.edge-index l.graph.edges) };
  size_limit : length l.light.edges ≤ l.edge-index;
}
