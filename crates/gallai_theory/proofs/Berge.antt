-- Matchings that miss vertices: a removed set leaves no more components of odd size than it has members and the matching misses
-- vertices (Berge), and where it leaves so many each missed vertex lies in one.
use Rattle.graph_theory.proofs.Common.{◌≡◌, ℕ, zero, suc, ◌+◌, ◌*◌, ◌<◌, ◌≤◌, ◌%◌, ℤ, pos, ◌+ℤ◌, ◌-ℤ◌, ◌*ℤ◌, ◌≤ℤ◌, Bool, true}
use Rattle.graph_theory.proofs.Common.{false, cond, eqb, refl, sym, ◌∙◌, ap, inl, inr, arith, List, [], ◌∷◌, length, slice_index, All, AllPairs, nat_lt, ints, cases_Bool}
use Rattle.graph_theory.proofs.Common.{eqb-true, All-head, All-tail, int_sum_to, Multigraph, IsGraph, IsEdgeWithin, edge_at, degree, holds, crosses, IsVertexSet, AllDiffer, IsComponent}
use Rattle.graph_theory.proofs.Common.{IsOddHead, int_sum_to-same, int_sum_to-le, int_sum_to-add, int_sum_to-swap, int_sum_to-zero, int_sum_to-one, int_sum_to-pos, int_sum_to-at_one}
use Rattle.graph_theory.proofs.Common.{times-le, handshake, members_counted, members_at_most, ascending-differ, crossings, degree_sum, degrees_in_set, crossing_sums, AreApart}
use Rattle.graph_theory.proofs.Common.{IsOddComponent, component_at, held_once, crossed-le, have_heads, heads_apart}
use Rattle.graph_theory.proofs.Barriers.{one_if}
use Rattle.gallai_theory.specs.Matchings.{edges_used, IsMatched}
use Rattle.gallai_theory.specs.Laws.{OddCountIsBounded, MissedLieInOdd}

-- what a vertex lacks of degree 1
abbrev pub lack : Multigraph → List ℕ → ℕ → ℤ
lack g counts v = pos 1 -ℤ pos (degree g counts v)

abbrev lack_in : Multigraph → List ℕ → List ℕ → ℤ
lack_in g counts s = int_sum_to (λ i. cond (holds s (i + 1)) (lack g counts (i + 1)) (pos 0)) g.vertices

lack_or_degree : (t : Bool) (d : ℕ) → cond t (pos 1 -ℤ pos d) (pos 0) +ℤ pos (cond t d 0) ≡ cond t (pos 1) (pos 0)
lack_or_degree true d = omega (arith, ints)
lack_or_degree false d = omega (arith, ints)

-- what the members lack and their degrees add up to their number
lack_in-sum : (g : Multigraph) (counts s : List ℕ) → IsVertexSet g.vertices s → lack_in g counts s +ℤ pos (degree_sum g counts s) ≡ pos (length s)
lack_in-sum g counts s set =
    let held : ℕ → ℕ = λ i. cond (holds s (i + 1)) (degree g counts (i + 1)) 0 in
    let part : ℕ → ℤ = λ i. cond (holds s (i + 1)) (lack g counts (i + 1)) (pos 0) in
    let both = int_sum_to-add part (λ i. pos (held i)) g.vertices in
    let each = int_sum_to-same (λ i. part i +ℤ pos (held i)) (λ i. cond (holds s (i + 1)) (pos 1) (pos 0)) g.vertices
    (λ i b. lack_or_degree (holds s (i + 1)) (degree g counts (i + 1))) in
    omega (arith, ints, int_sum_to-pos held g.vertices, both, each, members_counted g.vertices s set.ascending set.in_range)

lack_low : (t : Bool) (d : ℕ) → d ≤ 1 → pos 0 ≤ℤ cond t (pos 1 -ℤ pos d) (pos 0)
lack_low true d h = omega (arith, ints)
lack_low false d h = omega (arith, ints)

lack_in-low : (g : Multigraph) (counts s : List ℕ) → IsMatched g counts → pos 0 ≤ℤ lack_in g counts s
lack_in-low g counts s m =
    let each = int_sum_to-le (λ _. pos 0) (λ i. cond (holds s (i + 1)) (lack g counts (i + 1)) (pos 0)) g.vertices
    (λ i b. lack_low (holds s (i + 1)) (degree g counts (i + 1)) (m.degrees (i + 1) (omega arith) (omega arith))) in
    omega (arith, ints, each, int_sum_to-zero g.vertices)

-- an odd set is crossed, or some member is missed
odd_lacks : (g : Multigraph) (counts s : List ℕ) → All (IsEdgeWithin g.vertices) g.edges → IsMatched g counts → length s % 2 ≡ 1 → IsVertexSet g.vertices s
    → pos 1 ≤ℤ (pos (crossings g counts s) +ℤ lack_in g counts s)
odd_lacks g counts s ends m odd set =
    omega (arith, ints, degrees_in_set g counts s ends, lack_in-sum g counts s set, lack_in-low g counts s m, odd)

-- of what v lacks at most once is counted in sets that are apart, and nothing where v is in none
lacks_once : (cs : List (List ℕ)) (v d n : ℕ) → d ≤ 1 → AllPairs AreApart cs → n ≤ length cs
    → int_sum_to (λ j. cond (holds (component_at cs j) v) (pos 1 -ℤ pos d) (pos 0)) n ≤ℤ (pos 1 -ℤ pos d)
lacks_once cs v zero n h apart b = held_once cs v n apart b
lacks_once cs v (suc zero) n h apart b =
    omega (arith, ints, int_sum_to-same (λ j. cond (holds (component_at cs j) v) (pos 0) (pos 0)) (λ _. pos 0) n (λ j below. same (holds (component_at cs j) v)), int_sum_to-zero n)
  where
    same : (t : Bool) → cond t (pos 0) (pos 0) ≡ pos 0
    same true = refl
    same false = refl
lacks_once cs v (suc (suc d)) n h apart b = absurd (omega arith)

lacks_none : (cs : List (List ℕ)) (v n : ℕ) (a : ℤ) → ((j : ℕ) → j < n → holds (component_at cs j) v ≡ false)
    → int_sum_to (λ j. cond (holds (component_at cs j) v) a (pos 0)) n ≡ pos 0
lacks_none cs v n a out =
    int_sum_to-same (λ j. cond (holds (component_at cs j) v) a (pos 0)) (λ _. pos 0) n (λ j b. ap (λ t. cond t a (pos 0)) (out j b)) ∙ int_sum_to-zero n

counted_once : (c : ℕ) → c ≤ 1 → pos c *ℤ (pos 1 +ℤ pos 1) ≡ pos (cond (nat_lt 0 c) 1 0) +ℤ pos (cond (nat_lt 0 c) 1 0)
counted_once zero h = refl
counted_once (suc zero) h = refl
counted_once (suc (suc c)) h = absurd (omega arith)

no_more : (d : ℕ) (t : Bool) → d ≤ 1 → (pos d *ℤ cond t (pos 1) (pos 0)) ≤ℤ cond t (pos 1) (pos 0)
no_more zero true h = omega (arith, ints)
no_more zero false h = omega (arith, ints)
no_more (suc zero) true h = omega (arith, ints)
no_more (suc zero) false h = omega (arith, ints)
no_more (suc (suc d)) t h = absurd (omega arith)

once-times : (d : ℕ) → pos d *ℤ pos 1 ≡ pos d
once-times d = omega (arith, ints)

-- each count is at most 1
count_low : (xs : List ℕ) (k : ℕ) → All (λ c. c ≤ 1) xs → slice_index xs k ≤ 1
count_low [] k all = omega arith
count_low (x ∷ xs) zero all = All-head (λ c. c ≤ 1) x xs all
count_low (x ∷ xs) (suc k) all = count_low xs k (All-tail (λ c. c ≤ 1) x xs all)

-- twice the edges that a matching uses and its missed vertices are all vertices
pub lack_total : (g : Multigraph) (counts : List ℕ) → All (IsEdgeWithin g.vertices) g.edges → IsMatched g counts
    → int_sum_to (λ i. lack g counts (i + 1)) g.vertices +ℤ pos (2 * edges_used g counts) ≡ pos g.vertices
lack_total g counts ends m =
    let n = g.vertices in
    let used : ℕ → ℕ = λ k. cond (nat_lt 0 (slice_index counts k)) 1 0 in
    let shaken = handshake g counts (λ _. pos 1) ends in
    let twice = int_sum_to-same (λ k. pos (slice_index counts k) *ℤ (pos 1 +ℤ pos 1)) (λ k. pos (used k) +ℤ pos (used k)) (length g.edges)
    (λ k b. counted_once (slice_index counts k) (count_low counts k m.at_most_once)) in
    let plain = int_sum_to-same (λ i. pos (degree g counts (i + 1)) *ℤ pos 1) (λ i. pos (degree g counts (i + 1))) n (λ i b. once-times (degree g counts (i + 1))) in
    let both = int_sum_to-add (λ i. lack g counts (i + 1)) (λ i. pos (degree g counts (i + 1))) n in
    let ones = int_sum_to-same (λ i. lack g counts (i + 1) +ℤ pos (degree g counts (i + 1))) (λ _. pos 1) n (λ i b. omega (arith, ints)) in
    omega (arith, ints, shaken, twice, int_sum_to-add (λ k. pos (used k)) (λ k. pos (used k)) (length g.edges), int_sum_to-pos used (length g.edges), plain, both, ones, int_sum_to-one n)

module _ (g : Multigraph) (removed counts : List ℕ) (cs : List (List ℕ)) (ends : All (IsEdgeWithin g.vertices) g.edges) (odd : All (IsOddComponent g removed) cs)
    (apart : AllPairs AreApart cs) (m : IsMatched g counts) where
  abbrev in_some : ℕ → ℤ
  in_some i = int_sum_to (λ j. cond (holds (component_at cs j) (i + 1)) (lack g counts (i + 1)) (pos 0)) (length cs)

  -- each odd component is crossed, or a member is missed; the edges that cross them end in the removed set
  few_by : pos (length cs) ≤ℤ (pos (length removed) +ℤ int_sum_to in_some g.vertices)
  few_by =
      let p = length cs in
      let n = g.vertices in
      let c : ℕ → ℕ = λ k. slice_index counts k in
      let cross : ℕ → ℤ = λ j. pos (crossings g counts (component_at cs j)) *ℤ pos 1 in
      let part : ℕ → ℤ = λ j. lack_in g counts (component_at cs j) in
      let each = int_sum_to-le (λ _. pos 1) (λ j. cross j +ℤ part j) p
      (λ j b.
      let is : IsComponent g removed (component_at cs j) = (odd j [] b).0 in
      omega (arith, ints, odd_lacks g counts (component_at cs j) ends m (odd j [] b).1 is.vertices)) in
      let below = int_sum_to-le (λ k. pos (c k) *ℤ int_sum_to (λ i. cond (crosses (component_at cs i) (edge_at g k)) (pos 1) (pos 0)) p)
      (λ k. pos (c k) *ℤ (one_if removed (edge_at g k).u +ℤ one_if removed (edge_at g k).v)) (length g.edges)
      (λ k b. times-le (c k) _ _ (crossed-le g removed cs k ends odd apart b)) in
      let by_vertex = handshake g counts (one_if removed) ends in
      let once = int_sum_to-le (λ i. pos (degree g counts (i + 1)) *ℤ one_if removed (i + 1)) (λ i. one_if removed (i + 1)) n
      (λ i b. no_more (degree g counts (i + 1)) (holds removed (i + 1)) (m.degrees (i + 1) (omega arith) (omega arith))) in
      let swapped = int_sum_to-swap (λ j i. cond (holds (component_at cs j) (i + 1)) (lack g counts (i + 1)) (pos 0)) p n in
      let ones = int_sum_to-one p in
      omega (arith, ints, each, int_sum_to-add cross part p, crossing_sums g counts (component_at cs) (λ _. pos 1) p, below, by_vertex, once, members_at_most n removed, swapped, ones)

  in_some-most : (i : ℕ) → i < g.vertices → in_some i ≤ℤ lack g counts (i + 1)
  in_some-most i b = lacks_once cs (i + 1) (degree g counts (i + 1)) (length cs) (m.degrees (i + 1) (omega arith) (omega arith)) apart (omega arith)

  -- no more components of odd size are apart than the removed set has members and the matching misses vertices
  pub few : length cs + 2 * edges_used g counts ≤ g.vertices + length removed
  few =
      omega (arith, ints, few_by, int_sum_to-le in_some (λ i. lack g counts (i + 1)) g.vertices in_some-most, lack_total g counts ends m)

  -- and one less where a missed vertex lies in none of them
  pub fewer : (v : ℕ) → 1 ≤ v → v ≤ g.vertices → degree g counts v ≡ 0 → ((j : ℕ) → j < length cs → holds (component_at cs j) v ≡ false)
      → length cs + 1 + 2 * edges_used g counts ≤ g.vertices + length removed
  fewer v low high missed out =
      let here : ℕ → ℤ = λ i. cond (eqb v (i + 1)) (pos 1) (pos 0) in
      let most = int_sum_to-le (λ i. in_some i +ℤ here i) (λ i. lack g counts (i + 1)) g.vertices
      (λ i b. elim (cases_Bool (eqb v (i + 1))) [
        | inl same ↦
            let at : v ≡ i + 1 = eqb-true v (i + 1) same in
            let none : in_some i ≡ pos 0 = lacks_none cs (i + 1) (length cs) (lack g counts (i + 1)) (λ j below. ap (holds (component_at cs j)) (sym at) ∙ out j below) in
            let free : degree g counts (i + 1) ≡ 0 = ap (degree g counts) (sym at) ∙ missed in
            let one : here i ≡ pos 1 = ap (λ t. cond t (pos 1) (pos 0)) same in
            omega (arith, ints, none, free, one)
        | inr other ↦
            let zero_here : here i ≡ pos 0 = ap (λ t. cond t (pos 1) (pos 0)) other in
            omega (arith, ints, zero_here, in_some-most i b)
      ]) in
      omega (arith, ints, few_by, most, int_sum_to-add in_some here g.vertices, int_sum_to-at_one (λ _. pos 1) v g.vertices low high, lack_total g counts ends m)

-- Berge: as least vertices of different components of odd size no more are known than a matching misses vertices and the
-- removed set has members
pub heads_few : (g : Multigraph) (removed counts heads : List ℕ) → IsGraph g → IsMatched g counts → AllDiffer heads
    → ((v : ℕ) → holds heads v ≡ true → IsOddHead g removed v)
    → length heads + 2 * edges_used g counts ≤ g.vertices + length removed
heads_few g removed counts heads ok m differ each =
    let found = have_heads g removed heads each in
    omega (arith, few g removed counts found.components ok.ends found.odd (heads_apart g removed heads differ found) m, found.as_many)

-- .. and so is the count of all components of odd size
pub odd_count_berge : OddCountIsBounded
odd_count_berge g removed counts n ok count m =
    omega (arith, heads_few g removed counts count.heads ok m (ascending-differ count.heads count.ascending) (λ v. (count.exact v).0), count.size)

-- a missed vertex that lies in none leaves one less
pub odd_count_missed : MissedLieInOdd
odd_count_missed g removed counts n v ok count m low high missed out =
    let found = have_heads g removed count.heads (λ x. (count.exact x).0) in
    let least = fewer g removed counts found.components ok.ends found.odd (heads_apart g removed count.heads (ascending-differ count.heads count.ascending) found) m v low high missed
    (λ j b. out (component_at found.components j) (found.odd j [] b).0 (found.odd j [] b).1) in
    omega (arith, least, count.size, found.as_many)
