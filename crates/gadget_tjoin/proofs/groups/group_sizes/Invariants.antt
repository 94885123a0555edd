use Rattle.mb_problem.proofs.Common.{◌≡◌, ◌+◌, port_count, odd_at}
use Rattle.gadget_base.specs.Blocks.{tabled}
use Rattle.gadget_tjoin.proofs.groups.group_sizes.Given as goal

abbrev pub invariant-loop-k : goal.invariant-loop-k
invariant-loop-k l = l.sizes.items ≡ tabled (λ j. port_count l.instance (odd_at l.parity l.instance) (j + 1)) l.k
