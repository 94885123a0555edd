use Rattle.mb_problem.proofs.Common.{◌≡◌, ◌%◌, take, count_by, ◌==◌, value_of}
use Rattle.cert_check.proofs.parts.holds_odd.Given as goal

abbrev pub invariant-loop-v : goal.invariant-loop-v
invariant-loop-v l = l.count ≡ count_by (λ v. value_of l.instance v % 2 == 1) (take l.v-index l.members)
