use Rattle.alt_forest.proofs.Common.{◌≡◌, ◌≤◌, ℕ, false, vec_len, is_child, edge_in}
use Rattle.augment.specs.Opening.{IsSpread, CanMark}
use Rattle.augment.proofs.marking.mark_mates.Given as goal

abbrev pub invariant-loop-number : goal.invariant-loop-number
invariant-loop-number l = record {
  possible : CanMark l.graph l.arena (edge_in l.mates.items);
  spread : (a : ℕ) → 1 ≤ a → a ≤ l.number → IsSpread l.graph l.arena.blossoms (edge_in l.mates.items) a;
  outermost : (c : ℕ) → is_child l.arena.blossoms c ≡ false → edge_in l.mates.items c ≡ edge_in l.fn.mates.items c;
  len : vec_len l.mates ≡ vec_len l.fn.mates;
}
