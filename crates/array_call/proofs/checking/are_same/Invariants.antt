use Rattle.graph_theory.proofs.Common.{◌≡◌, ℕ, ◌<◌, pos, get_or}
use Rattle.array_call.proofs.checking.are_same.Given as goal

abbrev pub invariant-loop-k : goal.invariant-loop-k
invariant-loop-k l = (j : ℕ) → j < l.k → get_or l.own j (pos 0) ≡ get_or l.numbers j (pos 0)
