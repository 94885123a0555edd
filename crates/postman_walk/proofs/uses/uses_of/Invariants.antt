use Rattle.graph_theory.proofs.Common.{◌≡◌, ℕ, ◌+◌, ◌<◌, length, slice_index, cond, take, holds}
use Rattle.postman_walk.proofs.uses.uses_of.Given as goal

abbrev pub invariant-loop-edge : goal.invariant-loop-edge
invariant-loop-edge l = record {
  size : length l.uses.items ≡ l.count;
  each : (k : ℕ) → k < l.count → slice_index l.uses.items k ≡ 1 + cond (holds (take l.edge-index l.join) (k + 1)) 1 0;
}
