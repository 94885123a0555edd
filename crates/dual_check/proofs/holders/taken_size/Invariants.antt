use Rattle.graph_theory.proofs.Common.{◌≡◌, ◌-◌, ◌^◌, cond, length, min, given_at, sum_to}
use Rattle.graph_parts.specs.Marks.{is_marked}
use Rattle.dual_check.proofs.holders.taken_size.Given as goal

abbrev pub invariant-loop-k : goal.invariant-loop-k
invariant-loop-k l = l.size ≡ min (2 ^ 64 - 1) (sum_to (λ k. cond (is_marked l.taken k) (length (given_at l.sets k).vertices) 0) l.k)
