use Rattle.alt_forest.proofs.Common.{◌≡◌, ◌≤◌, ◌+◌, ◌++◌, ℕ, true, length, vec_len, vec_capacity, holds, most_blossoms, names_of, filter}
use Rattle.search_start.specs.Proving.{is_proving, proving}
use Rattle.search_start.proofs.set_list.list_sets.Given as goal

abbrev pub invariant-loop-b : goal.invariant-loop-b
invariant-loop-b l = record {
  lists : l.sets.items ++ filter (is_proving l.arena.duals) l.b-iterator ≡ proving l.arena.duals l.arena.blossoms;
  left : (x : ℕ) → holds l.b-iterator x ≡ true → holds (names_of l.arena.blossoms) x ≡ true;
  size_limit : vec_len l.sets + length l.b-iterator ≤ most_blossoms l.arena.vertex_count;
  capacity : vec_capacity l.sets ≡ vec_capacity l.fn.sets;
}
