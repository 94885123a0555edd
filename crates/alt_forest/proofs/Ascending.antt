-- Ascending lists of numbers, and lists that a function maps.
use Rattle.graph_theory.proofs.Common.{◌≡◌, ℕ, ◌+◌, ◌-◌, ◌<◌, ◌≤◌, Bool, true, ◌&&◌, List, [], ◌∷◌, length, map, get_or, sym, ap, ◌∙◌, subst, arith}
use Rattle.graph_theory.proofs.Common.{filter, range_with_len, IsStrictlyIncreasing, both_ways, and_parts, false_from_ne_true, length-range_with_len, get_or-range_with_len}
use Rattle.graph_theory.proofs.Common.{AllPairs-from_increasing, IsStrictlyIncreasing-filter, holds, IsVertexSet, holds_place, holds_at, all_holds, range-ascending}
use Rattle.graph_theory.proofs.Common.{member-mapped as holds-map}
use Rattle.std.specs.Cmp.{both_ways as same_tests}
use Rattle.blossom_arena.specs.Family.{is_vertex}
use Rattle.blossom_arena.proofs.Lists.{AllNew, holds-filter, first_in, later_in}
use Rattle.blossom_arena.proofs.Forms.{new_by_pairs}
use Rattle.blossom_arena.proofs.Nested.{vertex_range, range_vertex}

pub holds-range : (n v : ℕ) → holds (range_with_len 1 n) v ≡ is_vertex n v
holds-range n v = same_tests (holds (range_with_len 1 n) v) (is_vertex n v)
    (λ h.
    let size : length (range_with_len 1 n) ≡ n = length-range_with_len 1 n in
    let p = holds_place (range_with_len 1 n) v h in let low : p.0 < n = omega (arith, p.1, size) in
    let at : get_or (range_with_len 1 n) p.0 0 ≡ 1 + p.0 = get_or-range_with_len 1 n p.0 0 low in
    range_vertex n v (omega (arith, at, p.2)) (omega (arith, at, p.2, low)))
    (λ iv.
    let size : length (range_with_len 1 n) ≡ n = length-range_with_len 1 n in let range = vertex_range n v iv in
    let at : get_or (range_with_len 1 n) (v - 1) 0 ≡ 1 + (v - 1) = get_or-range_with_len 1 n (v - 1) 0 (omega (arith, range.0, range.1)) in
    let same : get_or (range_with_len 1 n) (v - 1) 0 ≡ v = omega (arith, at, range.0) in
    subst (λ x. holds (range_with_len 1 n) x ≡ true) same (holds_at (range_with_len 1 n) (v - 1) 0 (omega (arith, size, range.0, range.1))))

-- the vertices that pass a test
pub picked_ascends : (n : ℕ) (p : ℕ → Bool) → IsStrictlyIncreasing (filter p (range_with_len 1 n))
picked_ascends n p = IsStrictlyIncreasing-filter p (range_with_len 1 n) (range-ascending n)

pub holds-picked : (n : ℕ) (p : ℕ → Bool) (v : ℕ) → holds (filter p (range_with_len 1 n)) v ≡ (is_vertex n v && p v)
holds-picked n p v = holds-filter p (range_with_len 1 n) v ∙ ap (λ t. t && p v) (holds-range n v)

pub picked_set : (n : ℕ) (p : ℕ → Bool) → IsVertexSet n (filter p (range_with_len 1 n))
picked_set n p = record {
  ascending = picked_ascends n p;
  in_range = all_holds (λ v. (1 ≤ v) × (v ≤ n)) (filter p (range_with_len 1 n)) (λ v h. vertex_range n v (and_parts (is_vertex n v) (p v) (sym (holds-picked n p v) ∙ h)).0);
}

-- none stands twice in an ascending list
pub new_from_ascending : (xs : List ℕ) → IsStrictlyIncreasing xs → AllNew xs
new_from_ascending xs up = new_by_pairs xs (AllPairs-from_increasing xs up)

-- numbers that it parts stay different
pub new-map : (f : ℕ → ℕ) (xs : List ℕ) → AllNew xs → ((x y : ℕ) → holds xs x ≡ true → holds xs y ≡ true → f x ≡ f y → x ≡ y) → AllNew (map f xs)
new-map f [] new parts = tt
new-map f (x ∷ xs) new parts = (
  false_from_ne_true (holds (map f xs) (f x)) (λ h.
      let p = holds-map f xs (f x) h in
      both_ways (holds xs x) new.0 (ap (holds xs) (parts x p.0 (first_in x xs) (later_in x xs p.0 p.1) (sym p.2)) ∙ p.1)),
  new-map f xs new.1 (λ y z hy hz. parts y z (later_in x xs y hy) (later_in x xs z hz)),
)
