use Rattle.graph_theory.proofs.Common.{◌≡◌, ℕ, ◌<◌, true, false, get_or}
use Rattle.mb_problem.proofs.marks.are_all_marked.Given as goal

abbrev pub invariant-loop-marked : goal.invariant-loop-marked
invariant-loop-marked l = (k : ℕ) → k < l.marked-index → get_or l.marks k false ≡ true
