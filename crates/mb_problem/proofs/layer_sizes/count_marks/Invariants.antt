use Rattle.graph_theory.proofs.Common.{◌≡◌, ◌+◌, ◌*◌, ◌≤◌, ◌&&◌, false, cond, get_or, sum_to}
use Rattle.mb_problem.proofs.layer_sizes.count_marks.Given as goal

abbrev pub invariant-loop-k : goal.invariant-loop-k
invariant-loop-k l = record {
  sum : l.standing ≡ sum_to (λ j. cond (get_or l.first j false) 1 0 + cond (get_or l.second j false) 1 0) l.k;
  value_limit : l.standing ≤ 2 * l.k;
  both : l.both ≡ sum_to (λ j. cond (get_or l.first j false && get_or l.second j false) 1 0) l.k;
  size_limit : l.both ≤ l.k;
}
