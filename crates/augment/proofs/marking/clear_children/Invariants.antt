use Rattle.alt_forest.proofs.Common.{◌≡◌, ◌≤◌, ℕ, true, false, None, vec_len, is_child, edge_in}
use Rattle.augment.proofs.marking.clear_children.Given as goal

abbrev pub invariant-loop-number : goal.invariant-loop-number
invariant-loop-number l = record {
  within : (c : ℕ) → is_child l.arena.blossoms c ≡ true → 1 ≤ c → c ≤ l.number → edge_in l.mates.items c ≡ None;
  outermost : (c : ℕ) → is_child l.arena.blossoms c ≡ false → edge_in l.mates.items c ≡ edge_in l.fn.mates.items c;
  len : vec_len l.mates ≡ vec_len l.fn.mates;
}
