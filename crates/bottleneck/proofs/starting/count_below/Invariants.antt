use Rattle.graph_theory.proofs.Common.{◌≡◌, ℕ, ◌<◌, int_lt, true}
use Rattle.bottleneck.specs.Halving.{weight_at}
use Rattle.bottleneck.proofs.starting.count_below.Given as goal

abbrev pub invariant-loop-place : goal.invariant-loop-place
invariant-loop-place l = (p : ℕ) → p < l.place → int_lt (weight_at l.weights p) l.bound ≡ true
