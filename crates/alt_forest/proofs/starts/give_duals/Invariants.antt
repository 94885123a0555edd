use Rattle.graph_theory.proofs.Common.{◌≡◌, ◌≤◌, ◌<◌, ℕ, pos, []}
use Rattle.blossom_arena.specs.Family.{IsFamily, dual_at}
use Rattle.alt_forest.proofs.starts.give_duals.Given as goal

abbrev pub invariant-loop-number : goal.invariant-loop-number
invariant-loop-number l = record {
  count : l.arena.vertex_count ≡ l.fn.arena.vertex_count;
  blossoms : l.arena.blossoms ≡ [];
  is_family : IsFamily l.arena;
  done : (v : ℕ) → 1 ≤ v → v ≤ l.number → dual_at l.arena.duals v ≡ l.start;
  frame : (v : ℕ) → l.number < v → dual_at l.arena.duals v ≡ pos 0;
}
