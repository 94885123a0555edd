use Rattle.bottleneck.specs.Halving.{AreLight}
use Rattle.bottleneck.proofs.choosing.light_edges.Given as goal

abbrev pub invariant-loop-place : goal.invariant-loop-place
invariant-loop-place l = AreLight l.graph l.most l.place l.numbers.items
