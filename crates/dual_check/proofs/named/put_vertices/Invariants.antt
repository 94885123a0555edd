use Rattle.graph_theory.proofs.Common.{◌≡◌, ℕ, ◌+◌, ◌<◌, ◌≤◌, length, slice_index_or}
use Rattle.dual_check.specs.Forests.{place_of, no_place}
use Rattle.dual_check.specs.Trees.{number_at}
use Rattle.dual_check.proofs.named.put_vertices.Given as goal

abbrev pub invariant-loop-k : goal.invariant-loop-k
invariant-loop-k l = record {
  size : length l.places.items ≡ length l.initial.places.items;
  inside : (t : ℕ) → t < l.k → slice_index_or l.places.items (l.begin + t) no_place ≡ place_of l.set (number_at l.vertices t);
  before : (x : ℕ) → x < l.begin → slice_index_or l.places.items x no_place ≡ slice_index_or l.initial.places.items x no_place;
  after : (x : ℕ) → l.begin + l.k ≤ x → slice_index_or l.places.items x no_place ≡ slice_index_or l.initial.places.items x no_place;
}
