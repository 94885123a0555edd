use Rattle.mb_problem.proofs.Common.{◌≡◌, ℕ, ◌+◌, ◌≤◌, false, length, vertices}
use Rattle.graph_parts.specs.Marks.{is_marked}
use Rattle.graph_parts.specs.OddParts.{is_terminal}
use Rattle.graph_parts.proofs.flags.odd_flags.Given as goal

abbrev pub invariant-loop-number : goal.invariant-loop-number
invariant-loop-number l = record {
  size : length l.flags.items ≡ vertices l.instance + 1;
  none : is_marked l.flags.items 0 ≡ false;
  each : (v : ℕ) → 1 ≤ v → v ≤ l.number → is_marked l.flags.items v ≡ is_terminal l.parity l.instance v;
}
