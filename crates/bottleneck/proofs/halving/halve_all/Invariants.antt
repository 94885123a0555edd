use Rattle.graph_theory.proofs.Common.{◌-◌}
use Rattle.mwpm_engine.specs.Solutions.{most_steps, size_of_graph}
use Rattle.bottleneck.proofs.Ranges.{IsHalving}
use Rattle.bottleneck.proofs.halving.halve_all.Given as goal

abbrev pub decreases-loop-range : goal.decreases-loop-range
decreases-loop-range g l = l.range.high - l.range.low

abbrev pub invariant-loop-range : goal.invariant-loop-range
invariant-loop-range g l = IsHalving l.graph l.weights l.range l.initial.steps l.steps (most_steps (size_of_graph l.graph))
