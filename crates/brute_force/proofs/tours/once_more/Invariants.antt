use Rattle.graph_theory.proofs.Common.{◌≡◌, ◌+◌, take, map}
use Rattle.brute_force.proofs.tours.once_more.Given as goal

abbrev pub invariant-loop-count : goal.invariant-loop-count
invariant-loop-count l = l.uses.items ≡ map (λ c. c + 1) (take l.count-index l.counts)
