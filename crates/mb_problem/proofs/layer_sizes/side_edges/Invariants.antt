use Rattle.graph_theory.proofs.Common.{◌≡◌, ◌+◌, ◌-◌, ◌*◌, ◌≤◌, false, cond, get_or, sum_to}
use Rattle.mb_problem.specs.Size.{joins}
use Rattle.mb_problem.proofs.layer_sizes.side_edges.Given as goal

abbrev pub invariant-loop-edge : goal.invariant-loop-edge
invariant-loop-edge l = record {
  sum : l.edges ≡ sum_to (λ k. cond (joins (λ v. get_or l.first (v - 1) false) l.instance k) 1 0 + cond (joins (λ v. get_or l.second (v - 1) false) l.instance k) 1 0) l.edge-index;
  value_limit : l.edges ≤ 2 * l.edge-index;
}
