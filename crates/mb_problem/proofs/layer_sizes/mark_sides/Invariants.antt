use Rattle.graph_theory.proofs.Common.{◌≡◌, ℕ, ◌+◌, ◌<◌, ◌≤◌, false, length, get_or}
use Rattle.mb_problem.specs.Size.{odd_before, in_first, in_second}
use Rattle.mb_problem.proofs.layer_sizes.mark_sides.Given as goal

abbrev pub invariant-loop-k : goal.invariant-loop-k
invariant-loop-k l = record {
  before : l.before ≡ odd_before l.instance (l.k + 1);
  size_limit : l.before ≤ l.k;
  first_size : length l.first ≡ length l.fn.first;
  second_size : length l.second ≡ length l.fn.second;
  first : (j : ℕ) → j < l.k → get_or l.first j false ≡ in_first l.odd l.instance (j + 1);
  second : (j : ℕ) → j < l.k → get_or l.second j false ≡ in_second l.odd l.instance (j + 1);
  first_rest : (j : ℕ) → l.k ≤ j → get_or l.first j false ≡ get_or l.fn.first j false;
  second_rest : (j : ℕ) → l.k ≤ j → get_or l.second j false ≡ get_or l.fn.second j false;
}
