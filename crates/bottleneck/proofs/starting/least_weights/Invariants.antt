use Rattle.graph_theory.proofs.Common.{◌≡◌, ◌+◌, length}
use Rattle.bottleneck.specs.Halving.{AreLeast}
use Rattle.bottleneck.proofs.starting.least_weights.Given as goal

abbrev pub invariant-loop-place : goal.invariant-loop-place
invariant-loop-place l = (length l.least.items ≡ l.graph.vertices + 1) × AreLeast l.graph l.place l.least.items
