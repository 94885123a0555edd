use Rattle.graph_theory.proofs.Common.{◌≡◌, ◌≤◌, cond, sum_to}
use Rattle.mb_problem.specs.Size.{is_loop_at}
use Rattle.mb_problem.proofs.size.link_count.Given as goal

abbrev pub invariant-loop-edge : goal.invariant-loop-edge
invariant-loop-edge l = record {
  sum : l.count ≡ sum_to (λ k. cond (is_loop_at l.instance k) 0 1) l.edge-index;
  value_limit : l.count ≤ l.edge-index;
}
