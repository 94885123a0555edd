use Rattle.graph_theory.proofs.Common.{◌≡◌, ℕ, ◌<◌, length}
use Rattle.blossom_arena.specs.declared.label.Label.TheVariants.{Out}
use Rattle.blossom_arena.specs.Family.{label_at}
use Rattle.blossom_arena.proofs.dual_table.Duals.rest.Given as goal

abbrev pub invariant-loop-place : goal.invariant-loop-place
invariant-loop-place l = record {
  values : l.self.values ≡ l.fn.self.values;
  len : length l.self.motions ≡ length l.fn.self.motions;
  done : (a : ℕ) → a < l.place → label_at l.self.motions a ≡ Out;
}
