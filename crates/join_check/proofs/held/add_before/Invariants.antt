use Rattle.mb_problem.proofs.Common.{◌≡◌, ℕ, ◌+◌, ◌<◌, ◌≤◌, length, slice_index}
use Rattle.join_check.specs.Checks.{held_at, held_before}
use Rattle.join_check.proofs.held.add_before.Given as goal

abbrev pub invariant-loop-node : goal.invariant-loop-node
invariant-loop-node l = record {
  size : length l.held ≡ length l.fn.held;
  done : (x : ℕ) → x < l.node → slice_index l.held x ≡ held_before l.odd l.nodes (x + 1) (length l.nodes);
  left : (x : ℕ) → l.node ≤ x → slice_index l.held x ≡ held_at l.odd l.nodes x (length l.nodes);
  sum : l.sum ≡ held_before l.odd l.nodes l.node (length l.nodes);
}
