use Rattle.graph_theory.proofs.Common.{◌≡◌, ◌≤◌, ◌<◌, ℕ, length, ◌+ℤ◌}
use Rattle.blossom_arena.specs.Family.{dual_at, label_at}
use Rattle.blossom_arena.specs.Changes.{share}
use Rattle.blossom_arena.proofs.dual_table.Duals.raise_each.Given as goal

abbrev pub invariant-loop-place : goal.invariant-loop-place
invariant-loop-place l = record {
  motions : l.self.motions ≡ l.fn.self.motions;
  len : length l.self.values ≡ length l.fn.self.values;
  done : (a : ℕ) → a < l.place → dual_at l.self.values a ≡ dual_at l.fn.self.values a +ℤ share l.d (label_at l.fn.self.motions a);
  left : (a : ℕ) → l.place ≤ a → dual_at l.self.values a ≡ dual_at l.fn.self.values a;
}
