-- How many steps a run counts at most: one pass that ends stuck, or two that don't. Where there is a perfect matching there are at least
-- half as many edges as vertices, so what an augment counts for vertices is few beside what it counts for edges.
use Rattle.graph_theory.proofs.Common.{◌≡◌, ◌⊎◌, ℕ, zero, suc, ◌+◌, ◌-◌, ◌*◌, ◌≤◌, pos, ◌+ℤ◌, ◌*ℤ◌, length, slice_index, sym, subst, arith}
use Rattle.graph_theory.proofs.Common.{Bool, true, false, cond, ltb, ⊎_elim, ints, nat_tests, Multigraph, IsGraph, HasNoLoop, handshake-perfect, int_sum_to-same, int_sum_to-pos}
use Rattle.graph_theory.proofs.Common.{int_sum_to-one, sum_to-most}
use Rattle.mwpm_engine.specs.Solutions.{HasPerfect, close_steps, most_steps, size_of_graph}
use Rattle.search_start.specs.Sweeps.{start_looks}
use Rattle.mwpm_engine.specs.Passes.{IsEnough, pass_total}
use Rattle.mwpm_engine.proofs.StepCounts.{times_le, some_or_none}

-- a perfect matching has half as many edges as there are vertices
pub perfect_few : (g : Multigraph) → IsGraph g → HasPerfect g → g.vertices ≤ 2 * length g.edges
perfect_few g graph (counts, perfect) =
    let both = handshake-perfect g counts (λ v. pos 1) graph.ends perfect in
    let twice = int_sum_to-same (λ k. pos (slice_index counts k) *ℤ (pos 1 +ℤ pos 1)) (λ k. pos (2 * slice_index counts k)) (length g.edges) (λ k low. omega (arith, ints)) in
    let whole = int_sum_to-pos (λ k. 2 * slice_index counts k) (length g.edges) in
    let one = int_sum_to-one g.vertices in
    let most = sum_to-most (λ k. 2 * slice_index counts k) 2 (length g.edges) (λ k low. let few = perfect.at_most_one k 0 (omega (arith, low, perfect.one_each)) in omega (arith, few)) in
    omega (arith, ints, both, twice, whole, one, most)

-- the sweeps at the start are made where there are ten vertices at least
many_looks : (n : ℕ) → 10 ≤ n → start_looks n ≡ 10
many_looks n ten = grind (arith, nat_tests)

looks_most : (n : ℕ) → start_looks n ≤ 10
looks_most n = either (ltb n 10)
  where
    either : (t : Bool) → 4 + cond t 0 6 ≤ 10
    either true = omega arith
    either false = omega arith

at_most : (a b c : ℕ) → a ≤ b → b ≤ c → a ≤ c
at_most a b c low high = omega (arith, low, high)

-- twice what two passes of which neither is stuck count together, with two looks at each edge between them
abbrev matched_twice : ℕ → ℕ → ℕ → ℕ
matched_twice n m k = (n - 2) * (4 * m * (n + 1) + 9 * n + 3) + 4 * m * (n + 1) + 18 * n + 4 * k * m + 4 * m

matched_more : (n m k : ℕ) → k ≤ 10 → matched_twice n m k ≤ matched_twice n m 10
matched_more n m k few = omega (arith, times_le (4 * k) (4 * 10) m (omega (arith, few)))

matched_many : (n k m j : ℕ) → n ≡ k + 4 → m ≡ j + 2 → matched_twice n m 10 ≤ 2 * ((n + 1) * (3 * n + 2) * (m + 1))
matched_many n k m j is at = subst (λ x. matched_twice x m 10 ≤ 2 * ((x + 1) * (3 * x + 2) * (m + 1))) (sym is)
    (subst (λ y. matched_twice (k + 4) y 10 ≤ 2 * ((k + 4 + 1) * (3 * (k + 4) + 2) * (y + 1))) (sym at)
    (subst (λ b. b * (4 * (j + 2) * (k + 4 + 1) + 9 * (k + 4) + 3) + 4 * (j + 2) * (k + 4 + 1) + 18 * (k + 4) + 4 * 10 * (j + 2) + 4 * (j + 2)
    ≤ 2 * ((k + 4 + 1) * (3 * (k + 4) + 2) * (j + 2 + 1))) (let back : k + 2 ≡ k + 4 - 2 = omega arith in back) (omega arith)))

matched_most : (n m : ℕ) → (2 ≤ n) ⊎ (m ≡ 0) → n ≤ 2 * m → matched_twice n m (start_looks n) ≤ 2 * ((n + 1) * (3 * n + 2) * (m + 1))
matched_most zero m some half = ⊎_elim (λ two. absurd (omega (arith, two))) (λ none. omega (arith, none)) some
matched_most (suc zero) m some half = ⊎_elim (λ two. absurd (omega (arith, two))) (λ none. omega (arith, none)) some
matched_most (suc (suc zero)) m some half = omega arith
matched_most (suc (suc (suc zero))) m some half = omega arith
matched_most (suc (suc (suc (suc k)))) m some half =
    let n : ℕ = suc (suc (suc (suc k))) in
    at_most _ _ _ (matched_more n m (start_looks n) (looks_most n)) (matched_many n k m (m - 2) (omega arith) (omega (arith, half)))

matched_ten : (n m k : ℕ) → n ≡ k + 10 → n ≤ 2 * m → matched_twice n m 10 ≤ 2 * (2 * m * (n + 1) * (n + 1) + (n + 1) * (3 * n + 2))
matched_ten n m k is few =
    let back : k + 10 - 2 ≡ k + 8 = omega arith in
    let more : (k + 10) * (2 * k + 11) ≤ 2 * m * (2 * k + 11) = times_le (k + 10) (2 * m) (2 * k + 11) (omega (arith, is, few)) in
    subst (λ x. matched_twice x m 10 ≤ 2 * (2 * m * (x + 1) * (x + 1) + (x + 1) * (3 * x + 2))) (sym is)
    (subst (λ b. b * (4 * m * (k + 10 + 1) + 9 * (k + 10) + 3) + 4 * m * (k + 10 + 1) + 18 * (k + 10) + 4 * 10 * m + 4 * m
    ≤ 2 * (2 * m * (k + 10 + 1) * (k + 10 + 1) + (k + 10 + 1) * (3 * (k + 10) + 2))) (sym back) (omega (arith, more)))

matched_close : (n m : ℕ) → (2 ≤ n) ⊎ (m ≡ 0) → n ≤ 2 * m → matched_twice n m (start_looks n) ≤ 2 * (2 * m * (n + 1) * (n + 1) + (n + 1) * (3 * n + 2))
matched_close zero m some half = ⊎_elim (λ two. absurd (omega (arith, two))) (λ none. omega (arith, none)) some
matched_close (suc zero) m some half = ⊎_elim (λ two. absurd (omega (arith, two))) (λ none. omega (arith, none)) some
matched_close (suc (suc zero)) m some half = omega arith
matched_close (suc (suc (suc zero))) m some half = omega arith
matched_close (suc (suc (suc (suc zero)))) m some half = omega (arith, half)
matched_close (suc (suc (suc (suc (suc zero))))) m some half = omega (arith, half)
matched_close (suc (suc (suc (suc (suc (suc zero)))))) m some half = omega (arith, half)
matched_close (suc (suc (suc (suc (suc (suc (suc zero))))))) m some half = omega (arith, half)
matched_close (suc (suc (suc (suc (suc (suc (suc (suc zero)))))))) m some half = omega (arith, half)
matched_close (suc (suc (suc (suc (suc (suc (suc (suc (suc zero))))))))) m some half = omega (arith, half)
matched_close (suc (suc (suc (suc (suc (suc (suc (suc (suc (suc k)))))))))) m some half =
    let n : ℕ = suc (suc (suc (suc (suc (suc (suc (suc (suc (suc k))))))))) in
    subst (λ l. matched_twice n m l ≤ 2 * (2 * m * (n + 1) * (n + 1) + (n + 1) * (3 * n + 2))) (sym (many_looks n (omega arith))) (matched_ten n m k (omega arith) half)

-- four times what a pass that ends stuck counts
abbrev stuck_times : ℕ → ℕ → ℕ → ℕ
stuck_times n m k = n * (4 * m * (n + 1) + 9 * n + 3) + 4 * m * (n + 1) + 12 * n + 4 * k * m

stuck_more : (n m k : ℕ) → k ≤ 10 → stuck_times n m k ≤ stuck_times n m 10
stuck_more n m k few = omega (arith, times_le (4 * k) (4 * 10) m (omega (arith, few)))

stuck_many : (n k m : ℕ) → n ≡ k + 4 → stuck_times n m 10 ≤ 4 * ((n + 1) * (3 * n + 2) * (m + 1))
stuck_many n k m is = subst (λ x. stuck_times x m 10 ≤ 4 * ((x + 1) * (3 * x + 2) * (m + 1))) (sym is) (omega arith)

stuck_most : (n m : ℕ) → (2 ≤ n) ⊎ (m ≡ 0) → stuck_times n m (start_looks n) ≤ 4 * ((n + 1) * (3 * n + 2) * (m + 1))
stuck_most zero m some = ⊎_elim (λ two. absurd (omega (arith, two))) (λ none. omega (arith, none)) some
stuck_most (suc zero) m some = ⊎_elim (λ two. absurd (omega (arith, two))) (λ none. omega (arith, none)) some
stuck_most (suc (suc zero)) m some = omega arith
stuck_most (suc (suc (suc zero))) m some = omega arith
stuck_most (suc (suc (suc (suc k)))) m some =
    let n : ℕ = suc (suc (suc (suc k))) in at_most _ _ _ (stuck_more n m (start_looks n) (looks_most n)) (stuck_many n k m (omega arith))

stuck_ten : (n m k : ℕ) → n ≡ k + 10 → stuck_times n m 10 ≤ 4 * (2 * m * (n + 1) * (n + 1) + (n + 1) * (3 * n + 2))
stuck_ten n m k is = subst (λ x. stuck_times x m 10 ≤ 4 * (2 * m * (x + 1) * (x + 1) + (x + 1) * (3 * x + 2))) (sym is) (omega arith)

stuck_close : (n m : ℕ) → (2 ≤ n) ⊎ (m ≡ 0) → stuck_times n m (start_looks n) ≤ 4 * (2 * m * (n + 1) * (n + 1) + (n + 1) * (3 * n + 2))
stuck_close zero m some = ⊎_elim (λ two. absurd (omega (arith, two))) (λ none. omega (arith, none)) some
stuck_close (suc zero) m some = ⊎_elim (λ two. absurd (omega (arith, two))) (λ none. omega (arith, none)) some
stuck_close (suc (suc zero)) m some = omega arith
stuck_close (suc (suc (suc zero))) m some = omega arith
stuck_close (suc (suc (suc (suc zero)))) m some = omega arith
stuck_close (suc (suc (suc (suc (suc zero))))) m some = omega arith
stuck_close (suc (suc (suc (suc (suc (suc zero)))))) m some = omega arith
stuck_close (suc (suc (suc (suc (suc (suc (suc zero))))))) m some = omega arith
stuck_close (suc (suc (suc (suc (suc (suc (suc (suc zero)))))))) m some = omega arith
stuck_close (suc (suc (suc (suc (suc (suc (suc (suc (suc zero))))))))) m some = omega arith
stuck_close (suc (suc (suc (suc (suc (suc (suc (suc (suc (suc k)))))))))) m some =
    let n : ℕ = suc (suc (suc (suc (suc (suc (suc (suc (suc (suc k))))))))) in
    subst (λ l. stuck_times n m l ≤ 4 * (2 * m * (n + 1) * (n + 1) + (n + 1) * (3 * n + 2))) (sym (many_looks n (omega arith))) (stuck_ten n m k (omega arith))

-- all of it is within what a run may count
pub most_enough : (g : Multigraph) → IsGraph g → HasNoLoop g → IsEnough g (most_steps (size_of_graph g))
unfolding pass_total
most_enough g graph plain = let some = some_or_none g graph plain in record {
  stuck = stuck_most g.vertices (length g.edges) some;
  matched = λ perfect. matched_most g.vertices (length g.edges) some (perfect_few g graph perfect);
}

-- and of the bound that grows as m (n + 1) (n + 1)
pub close_enough : (g : Multigraph) → IsGraph g → HasNoLoop g → IsEnough g (close_steps (size_of_graph g))
unfolding pass_total
close_enough g graph plain = let some = some_or_none g graph plain in record {
  stuck = stuck_close g.vertices (length g.edges) some;
  matched = λ perfect. matched_close g.vertices (length g.edges) some (perfect_few g graph perfect);
}

-- what is enough for a run on the graph that an engine was made for, where half of it is
pub halved : (g k : Multigraph) (most : Multigraph → ℕ) (old new : ℕ) → ((m : ℕ) → IsEnough g m → 2 * new ≤ 2 * old + m) → g ≡ k → IsEnough k (most k) → 2 * new ≤ 2 * old + most k
halved g k most old new within same enough = within (most k) (subst (λ (h : Multigraph). IsEnough h (most k)) (sym same) enough)
