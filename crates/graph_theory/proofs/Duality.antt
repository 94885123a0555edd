-- Weak duality: feasible duals bound the weight of each perfect matching from below.
use Rattle.std.proofs.Common.{◌≡◌, ℕ, ◌+◌, ◌-◌, ◌<◌, ◌≤◌, ℤ, pos, ◌+ℤ◌, ◌*ℤ◌, ◌≤ℤ◌, refl, ap, arith, List, length, slice_index}
use Rattle.std.proofs.Common.{slice_index_or}
use Rattle.std.proofs.lemmas.Int.{ints}
use Rattle.graph_theory.specs.Sums.{int_sum_to}
use Rattle.graph_theory.specs.Graph.{Multigraph, IsGraph, no_edge, edge_at, weight, IsPerfect}
use Rattle.graph_theory.specs.Duals.{DualSet, HasForm, IsSetWithin, AreDuals, no_set, set_at, dual_of, crossed_by, slack, dual_value}
use Rattle.graph_theory.proofs.SumLemmas.{int_sum_to-same, int_sum_to-le, int_sum_to-zero, int_sum_to-add, times-add, times-le, times-two, times-int_sum_to, at_least_once}
use Rattle.graph_theory.proofs.Handshake.{handshake-perfect}
use Rattle.graph_theory.proofs.Crossings.{crossings, crosses_odd, crossing_sums}

-- Twice the weight is the slacks of the matching's edges, the duals of all vertices, and the dual of each set as often
-- as the matching crosses it.
pub weight_by_slacks : (g : Multigraph) (y : List ℤ) (sets : List DualSet) (counts : List ℕ) → IsGraph g → length y ≡ g.vertices → IsPerfect g counts
    → pos 2 *ℤ weight g counts ≡ int_sum_to
    (λ k. pos (slice_index counts k) *ℤ slack y sets (edge_at g k)) (length g.edges) +ℤ (int_sum_to (λ i. slice_index_or y i (pos 0)) (length y) +ℤ int_sum_to
    (λ j. pos (crossings g counts (set_at sets j).members) *ℤ (set_at sets j).dual) (length sets))
weight_by_slacks g y sets counts ok size perfect =
    let m = length g.edges in
    let n = g.vertices in
    let c : ℕ → ℕ = λ k. slice_index counts k in
    let ends : ℕ → ℤ = λ k. dual_of y (edge_at g k).u +ℤ dual_of y (edge_at g k).v in
    let crossed : ℕ → ℤ = λ k. crossed_by sets (length sets) (edge_at g k) in
    let loose : ℕ → ℤ = λ k. slack y sets (edge_at g k) in
    let each = int_sum_to-same (λ k. pos 2 *ℤ (pos (c k) *ℤ (edge_at g k).w)) (λ k. pos (c k) *ℤ loose k +ℤ (pos (c k) *ℤ ends k +ℤ pos (c k) *ℤ crossed k)) m
    (λ k b.
    let whole : pos 2 *ℤ (edge_at g k).w ≡ loose k +ℤ (ends k +ℤ crossed k) = omega (arith, ints) in
    let scaled : pos (c k) *ℤ (pos 2 *ℤ (edge_at g k).w) ≡ pos (c k) *ℤ (loose k +ℤ (ends k +ℤ crossed k)) = ap (λ x. pos (c k) *ℤ x) whole in
    omega (arith, ints, scaled, times-two (c k) (edge_at g k).w, times-add (c k) (loose k) (ends k +ℤ crossed k), times-add (c k) (ends k) (crossed k))) in
    let doubled = times-int_sum_to 2 (λ k. pos (c k) *ℤ (edge_at g k).w) m in
    let split = int_sum_to-add (λ k. pos (c k) *ℤ loose k) (λ k. pos (c k) *ℤ ends k +ℤ pos (c k) *ℤ crossed k) m in
    let by_vertex = handshake-perfect g counts (dual_of y) ok.ends perfect in
    let vertices = int_sum_to-same (λ i. dual_of y (i + 1)) (λ i. slice_index_or y i (pos 0)) n (λ i b. let back : i + 1 - 1 ≡ i = omega arith in rw back refl) in
    let by_set = crossing_sums g counts (λ j. (set_at sets j).members) (λ j. (set_at sets j).dual) (length sets) in
    rw size (omega (arith, ints, each, doubled, split, int_sum_to-add (λ k. pos (c k) *ℤ ends k) (λ k. pos (c k) *ℤ crossed k) m, by_vertex, vertices, by_set))

-- a perfect matching crosses each set of the duals at least once
crossed_once : (g : Multigraph) (y : List ℤ) (sets : List DualSet) (counts : List ℕ) (j : ℕ) → IsGraph g → AreDuals g y sets → IsPerfect g counts → j < length sets
    → 1 ≤ crossings g counts (set_at sets j).members
crossed_once g y sets counts j ok duals perfect b =
    let s : IsSetWithin g.vertices (set_at sets j) = duals.sets_within j no_set b in
    let form : HasForm (set_at sets j).members = duals.forms j no_set b in
    crosses_odd g counts (set_at sets j).members ok.ends perfect form.odd form.ascending s.in_range

-- the dual value is at most twice the weight
pub weak_duality : (g : Multigraph) (y : List ℤ) (sets : List DualSet) (counts : List ℕ) → IsGraph g → AreDuals g y sets → IsPerfect g counts
    → dual_value y sets ≤ℤ (pos 2 *ℤ weight g counts)
weak_duality g y sets counts ok duals perfect =
    let m = length g.edges in
    let tight = int_sum_to-le (λ _. pos 0) (λ k. pos (slice_index counts k) *ℤ slack y sets (edge_at g k)) m
    (λ k b.
    let free : pos 0 ≤ℤ slack y sets (edge_at g k) = duals.slacks k no_edge b in
    omega (arith, ints, times-le (slice_index counts k) (pos 0) (slack y sets (edge_at g k)) free)) in
    let each = int_sum_to-le (λ j. (set_at sets j).dual) (λ j. pos (crossings g counts (set_at sets j).members) *ℤ (set_at sets j).dual) (length sets)
    (λ j b.
    let s : IsSetWithin g.vertices (set_at sets j) = duals.sets_within j no_set b in
    at_least_once (crossings g counts (set_at sets j).members) (set_at sets j).dual (crossed_once g y sets counts j ok duals perfect b) (let low = s.positive in omega (arith, ints))) in
    omega (arith, ints, weight_by_slacks g y sets counts ok duals.one_each perfect, tight, int_sum_to-zero m, each)

-- a perfect matching of twice the dual value's weight is best
-- one set more: the steps of a loop over the sets, where s is the set at i
