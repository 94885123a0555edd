-- A perfect matching of tight edges, one of which leaves each set, meets the duals: their value is twice its weight.
use Rattle.alt_forest.proofs.Common.{◌≡◌, ℕ, ◌*◌, ◌<◌, ℤ, pos, ◌*ℤ◌, Bool, true, false, eqb, cond, List, [], ◌∷◌, length, refl, ap, ◌∙◌, arith}
use Rattle.alt_forest.proofs.Common.{slice_index, AllByRecursion, ints, both_ways, Multigraph, IsGraph, IsPerfect, edge_at, weight, holds, crosses, DualSet, set_at, slack, dual_value}
use Rattle.alt_forest.proofs.Common.{sum_to-same, int_sum_to-same, int_sum_to-zero, crossings, crosses-same, weight_by_slacks, Blossom, names_of, members_of, AreSame, by_test, members_here}
use Rattle.alt_forest.proofs.Common.{members_past, older_name}
use Rattle.augment.specs.Matching.{leaving}

-- the edges that leave a blossom, by its node
pub left_once : (g : Multigraph) (counts : List ℕ) (bs : List Blossom) (a : ℕ) → AllByRecursion (λ (b : Blossom). leaving g counts b.members ≡ 1) bs → holds (names_of bs) a ≡ true
    → leaving g counts (members_of bs a) ≡ 1
left_once g counts [] a each h = absurd (both_ways false refl h)
left_once g counts (b ∷ older) a each h = by_test (eqb b.node a)
    (λ s. ap (leaving g counts) (members_here b older a s) ∙ each.0)
    (λ s. ap (leaving g counts) (members_past b older a s) ∙ left_once g counts older a each.1 (older_name b older a s h))

once_or_not : (t : Bool) (c : ℕ) → cond t c 0 ≡ c * cond t 1 0
once_or_not true c = omega arith
once_or_not false c = omega arith

-- the edges that leave a set, in whatever order its vertices stand
pub crossings_same : (g : Multigraph) (counts xs ys : List ℕ) → AreSame xs ys → crossings g counts xs ≡ leaving g counts ys
crossings_same g counts xs ys same =
    sum_to-same (λ k. cond (crosses xs (edge_at g k)) (slice_index counts k) 0) (λ k. slice_index counts k * cond (crosses ys (edge_at g k)) 1 0) (length g.edges)
    (λ k b. ap (λ t. cond t (slice_index counts k) 0) (crosses-same xs ys (edge_at g k) same) ∙ once_or_not (crosses ys (edge_at g k)) (slice_index counts k))

-- no counted edge has a slack, and each set is left once
pub value_met : (g : Multigraph) (y : List ℤ) (sets : List DualSet) (counts : List ℕ) → IsGraph g → length y ≡ g.vertices → IsPerfect g counts
    → ((k : ℕ) → k < length g.edges → pos (slice_index counts k) *ℤ slack y sets (edge_at g k) ≡ pos 0)
    → ((j : ℕ) → j < length sets → crossings g counts (set_at sets j).members ≡ 1)
    → dual_value y sets ≡ pos 2 *ℤ weight g counts
value_met g y sets counts ok size perfect tight left =
    let whole = weight_by_slacks g y sets counts ok size perfect in
    let none = int_sum_to-same (λ k. pos (slice_index counts k) *ℤ slack y sets (edge_at g k)) (λ _. pos 0) (length g.edges) tight in
    let nothing = int_sum_to-zero (length g.edges) in
    let each = int_sum_to-same (λ j. pos (crossings g counts (set_at sets j).members) *ℤ (set_at sets j).dual) (λ j. (set_at sets j).dual) (length sets)
    (λ j b. ap (λ c. pos c *ℤ (set_at sets j).dual) (left j b) ∙ once (set_at sets j).dual) in
    omega (arith, ints, whole, none, nothing, each)
  where
    once : (z : ℤ) → pos 1 *ℤ z ≡ z
    once z = omega (arith, ints)
