-- The sum of all duals of a search is at most twice the weight of a perfect matching (weak duality, chapters 25 and 26),
-- and that weight is bounded by the number of vertices.
use Rattle.alt_forest.proofs.Common.{◌≡◌, ℕ, ◌+◌, ◌≤◌, ℤ, pos, ◌+ℤ◌, ◌-ℤ◌, ◌*ℤ◌, ◌≤ℤ◌, true, not, ◌&&◌, cond, List, [], ◌∷◌, length}
use Rattle.alt_forest.proofs.Common.{slice_index, refl, sym, ap, ap₂, ◌∙◌, subst, arith, AllByRecursion, filter, range_with_len, ints, eq-eqb, WEIGHT_LIMIT, int_sum_to, Edge}
use Rattle.alt_forest.proofs.Common.{Multigraph, IsGraph, IsEdgeNumber, edge_at, weight, IsPerfect, holds, crosses, sum_to-same, int_sum_to-same, int_sum_to-le, int_sum_to-add, times-add}
use Rattle.alt_forest.proofs.Common.{times-le, times-two, times-int_sum_to, at_least_once, sum_to-times, cond-times, times-cond, int_sum_to-constant, edge_of-place, edge_at-weight}
use Rattle.alt_forest.proofs.Common.{number_of-place, handshake-perfect, holds_all, crossings, crosses_odd, Blossom, IsNested, IsOddSet, is_vertex, names_of, duals_across, by_test, first_in}
use Rattle.alt_forest.proofs.Common.{range_vertex, members_here, members_form, sorted_form, slack_with, picked_ascends, holds-picked, and-false}
use Rattle.alt_forest.specs.Totals.{duals_over}

-- the dual of each blossom as often as the counted edges cross it
abbrev crossed_sum : Multigraph → List ℕ → (ℕ → ℤ) → List Blossom → ℤ
crossed_sum g counts y [] = pos 0
crossed_sum g counts y (b ∷ older) = pos (crossings g counts b.members) *ℤ y b.node +ℤ crossed_sum g counts y older

module _ (g : Multigraph) (counts : List ℕ) (graph : IsGraph g) (perfect : IsPerfect g counts) where
  abbrev count : ℕ → ℕ
  count k = slice_index counts k

  -- one number, each time that a set is crossed
  crossed_times : (set : List ℕ) (z : ℤ) → int_sum_to (λ k. pos (count k) *ℤ cond (crosses set (edge_at g k)) z (pos 0)) (length g.edges) ≡ pos (crossings g counts set) *ℤ z
  crossed_times set z =
      int_sum_to-same (λ k. pos (count k) *ℤ cond (crosses set (edge_at g k)) z (pos 0)) (λ k. pos (cond (crosses set (edge_at g k)) (count k) 0) *ℤ z) (length g.edges)
      (λ k low. times-cond (crosses set (edge_at g k)) (count k) z ∙ sym (cond-times (crosses set (edge_at g k)) (count k) z))
      ∙ sym (sum_to-times (λ k. cond (crosses set (edge_at g k)) (count k) 0) z (length g.edges))

  -- what the edges of the matching feel: each vertex once, and each blossom as often as they cross it
  sums : (y : ℕ → ℤ) (bs : List Blossom)
      → int_sum_to (λ k. pos (count k) *ℤ duals_across y bs (edge_at g k)) (length g.edges) ≡ int_sum_to (λ i. y (i + 1)) g.vertices +ℤ crossed_sum g counts y bs
  sums y [] = let each = handshake-perfect g counts y graph.ends perfect in omega (arith, ints, each)
  sums y (b ∷ older) =
      let m : ℕ = length g.edges in
      let here : ℕ → ℤ = λ k. cond (crosses b.members (edge_at g k)) (y b.node) (pos 0) in
      let rest : ℕ → ℤ = λ k. duals_across y older (edge_at g k) in
      let both : int_sum_to (λ k. pos (count k) *ℤ (here k +ℤ rest k)) m ≡ int_sum_to (λ k. pos (count k) *ℤ here k +ℤ pos (count k) *ℤ rest k) m =
      int_sum_to-same (λ k. pos (count k) *ℤ (here k +ℤ rest k)) (λ k. pos (count k) *ℤ here k +ℤ pos (count k) *ℤ rest k) m (λ k low. times-add (count k) (here k) (rest k)) in
      let split = int_sum_to-add (λ k. pos (count k) *ℤ here k) (λ k. pos (count k) *ℤ rest k) m in
      plain _ _ _ _ _ _ _ both split (crossed_times b.members (y b.node)) (sums y older)
    where
      plain : (t u p q x v c : ℤ) → t ≡ u → u ≡ p +ℤ q → p ≡ x → q ≡ v +ℤ c → t ≡ v +ℤ (x +ℤ c)
      plain t u p q x v c e f h i = omega (arith, ints, e, f, h, i)

  -- a perfect matching crosses each blossom at least once
  crossed_once : (b : Blossom) (older : List Blossom) → IsNested g.vertices (b ∷ older) → 1 ≤ crossings g counts b.members
  crossed_once b older nested =
      let n : ℕ = g.vertices in let set : List ℕ = filter (holds b.members) (range_with_len 1 n) in
      let odd : IsOddSet n b.members = subst (IsOddSet n) (members_here b older b.node (eq-eqb b.node b.node refl))
      (members_form n (b ∷ older) b.node nested (first_in b.node (names_of older))) in
      let same : (v : ℕ) → holds set v ≡ holds b.members v = λ v. holds-picked n (holds b.members) v ∙ by_test (holds b.members v)
      (λ t. let range = holds_all (λ w. (1 ≤ w) × (w ≤ n)) b.members v odd.in_range t in ap (λ q. q && holds b.members v) (range_vertex n v range.0 range.1))
      (λ t. ap (λ q. is_vertex n v && q) t ∙ and-false (is_vertex n v) ∙ sym t) in
      let form = sorted_form n b.members set odd (picked_ascends n (holds b.members)) same in
      let alike : crossings g counts set ≡ crossings g counts b.members = sum_to-same (λ k. cond (crosses set (edge_at g k)) (count k) 0)
      (λ k. cond (crosses b.members (edge_at g k)) (count k) 0) (length g.edges)
      (λ k low. ap₂ (λ p q. cond (cond p (not q) q) (count k) 0) (same (edge_at g k).u) (same (edge_at g k).v)) in
      let once : 1 ≤ crossings g counts set = crosses_odd g counts set graph.ends perfect form.0.odd form.0.ascending form.1 in
      omega (arith, alike, once)

  crossed_least : (y : ℕ → ℤ) (bs : List Blossom) → IsNested g.vertices bs → AllByRecursion (λ (b : Blossom). pos 0 ≤ℤ y b.node) bs → duals_over y (names_of bs) ≤ℤ crossed_sum g counts y bs
  crossed_least y [] nested low = omega (arith, ints)
  crossed_least y (b ∷ older) nested low =
      let rest : duals_over y (names_of older) ≤ℤ crossed_sum g counts y older = crossed_least y older nested.1 low.1 in
      let here : y b.node ≤ℤ (pos (crossings g counts b.members) *ℤ y b.node) = at_least_once (crossings g counts b.members) (y b.node) (crossed_once b older nested) low.0 in
      omega (arith, ints, rest, here)

  -- weak duality for the duals of a search
  pub total_bound : (y : ℕ → ℤ) (bs : List Blossom) → IsNested g.vertices bs → AllByRecursion (λ (b : Blossom). pos 0 ≤ℤ y b.node) bs
      → ((e : ℕ) → IsEdgeNumber g e → pos 0 ≤ℤ slack_with g true y bs e)
      → (int_sum_to (λ i. y (i + 1)) g.vertices +ℤ duals_over y (names_of bs)) ≤ℤ (pos 2 *ℤ weight g counts)
  total_bound y bs nested low slacks =
      let m : ℕ = length g.edges in
      let felt : int_sum_to (λ k. pos (count k) *ℤ duals_across y bs (edge_at g k)) m ≤ℤ int_sum_to (λ k. pos 2 *ℤ (pos (count k) *ℤ (edge_at g k).w)) m =
      int_sum_to-le (λ k. pos (count k) *ℤ duals_across y bs (edge_at g k)) (λ k. pos 2 *ℤ (pos (count k) *ℤ (edge_at g k).w)) m
      (λ k b.
      let free : pos 0 ≤ℤ slack_with g true y bs (k + 1) = slacks (k + 1) (number_of-place g k b) in
      let here : (pos 2 *ℤ (edge_at g k).w) -ℤ duals_across y bs (edge_at g k) ≡ slack_with g true y bs (k + 1) = ap (λ (e : Edge). (pos 2 *ℤ e.w) -ℤ duals_across y bs e)
      (sym (edge_of-place g k)) in
      let scaled = times-le (count k) (duals_across y bs (edge_at g k)) (pos 2 *ℤ (edge_at g k).w) (omega (arith, ints, free, here)) in
      omega (arith, ints, scaled, times-two (count k) (edge_at g k).w)) in
      let doubled = times-int_sum_to 2 (λ k. pos (count k) *ℤ (edge_at g k).w) m in
      plain _ _ _ _ _ _ felt doubled (sums y bs) (crossed_least y bs nested low)
    where
      plain : (p q w v c z : ℤ) → p ≤ℤ q → w ≡ q → p ≡ v +ℤ c → z ≤ℤ c → (v +ℤ z) ≤ℤ w
      plain p q w v c z e f h i = omega (arith, ints, e, f, h, i)

  -- twice the weight of an edge is at most the limit of weights for each of its ends
  pub weight_bound : (pos 2 *ℤ weight g counts) ≤ℤ (pos g.vertices *ℤ WEIGHT_LIMIT)
  weight_bound =
      let m : ℕ = length g.edges in let most : ℤ = WEIGHT_LIMIT in
      let each : int_sum_to (λ k. pos 2 *ℤ (pos (count k) *ℤ (edge_at g k).w)) m ≤ℤ int_sum_to (λ k. pos (count k) *ℤ (most +ℤ most)) m =
      int_sum_to-le (λ k. pos 2 *ℤ (pos (count k) *ℤ (edge_at g k).w)) (λ k. pos (count k) *ℤ (most +ℤ most)) m
      (λ k b.
      let high : (edge_at g k).w ≤ℤ most = (edge_at-weight g k graph b).1 in
      let scaled = times-le (count k) (edge_at g k).w most high in
      omega (arith, ints, scaled, times-add (count k) most most)) in
      let doubled = times-int_sum_to 2 (λ k. pos (count k) *ℤ (edge_at g k).w) m in
      let ends = handshake-perfect g counts (λ _. most) graph.ends perfect in
      let alike = int_sum_to-constant most g.vertices in
      plain _ _ _ _ _ each doubled ends alike
    where
      plain : (p q w v c : ℤ) → p ≤ℤ q → w ≡ p → q ≡ v → v ≡ c → w ≤ℤ c
      plain p q w v c e f h i = omega (arith, ints, e, f, h, i)
