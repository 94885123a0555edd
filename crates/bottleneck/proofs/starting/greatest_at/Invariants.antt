use Rattle.graph_theory.proofs.Common.{◌≤◌, ◌<◌, length}
use Rattle.bottleneck.proofs.starting.greatest_at.Given as goal

abbrev pub invariant-loop-vertex : goal.invariant-loop-vertex
invariant-loop-vertex l = (1 ≤ l.greatest) × (l.greatest < length l.least)
