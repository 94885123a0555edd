use Rattle.graph_theory.proofs.Common.{◌≡◌, take}
use Rattle.bottleneck.specs.Halving.{chosen}
use Rattle.bottleneck.proofs.choosing.chosen_graph.Given as goal

abbrev pub invariant-loop-number : goal.invariant-loop-number
invariant-loop-number l = l.part ≡ chosen l.graph (take l.number-index l.numbers)
