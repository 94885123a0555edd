use Rattle.graph_theory.proofs.Common.{◌≡◌, ◌≤◌, ◌<◌, ℕ}
use Rattle.blossom_arena.specs.Family.{IsFamily, dual_at}
use Rattle.search_start.proofs.weighing.raise_vertices.Given as goal

abbrev pub invariant-loop-number : goal.invariant-loop-number
invariant-loop-number l = record {
  frame : l.arena ≡ record l.fn.arena { duals = l.arena.duals };
  is_family : IsFamily l.arena;
  done : (v : ℕ) → 1 ≤ v → v ≤ l.number → dual_at l.arena.duals v ≡ l.dual;
  others : (a : ℕ) → l.number < a → dual_at l.arena.duals a ≡ dual_at l.fn.arena.duals a;
}
