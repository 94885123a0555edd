-- A pass that has just begun is within its bounds: duals have risen from the start alone.
use Rattle.alt_forest.proofs.Common.{◌≡◌, ℕ, zero, suc, ◌+◌, ◌-◌, ◌<◌, ℤ, pos, ◌+ℤ◌, ◌-ℤ◌, ◌*ℤ◌, ◌≤ℤ◌, true, false, List, [], refl, ap, subst}
use Rattle.alt_forest.proofs.Common.{arith, ⊎_elim, inl, inr, ints, both_ways, cases_eq, or_cases, int_sum_to, holds, int_sum_to-le, int_sum_to-constant, times-suc, Blossom, is_node}
use Rattle.alt_forest.proofs.Common.{is_vertex, names_of, by_test, range_vertex, vertex_range, State}
use Rattle.alt_forest.specs.Totals.{duals_over, dual_total}
use Rattle.search_start.specs.Bounds.{HasPerfect, IsBounded}
use Rattle.search_start.specs.Starts.{IsBegun}

-- terms that aren't below a number add up to no less than it as often
sum_least : (f : ℕ → ℤ) (c : ℤ) (n : ℕ) → ((k : ℕ) → k < n → c ≤ℤ f k) → (pos n *ℤ c) ≤ℤ int_sum_to f n
sum_least f c n low = let most = int_sum_to-le (λ _. c) f n low in let all = int_sum_to-constant c n in omega (arith, ints, most, all)

-- and no term lies farther above it than their sum does
term_within : (f : ℕ → ℤ) (c : ℤ) (n k : ℕ) → ((i : ℕ) → i < n → c ≤ℤ f i) → k < n → (f k -ℤ c) ≤ℤ (int_sum_to f n -ℤ (pos n *ℤ c))
term_within f c zero k low b = absurd (omega (arith, b))
term_within f c (suc n) k low b =
    let times = times-suc n c in
    let last : c ≤ℤ f n = low n (omega arith) in
    ⊎_elim
    (λ same. let here : f k ≡ f n = ap f same in let rest = sum_least f c n (λ i less. low i (omega (arith, less))) in omega (arith, ints, times, last, here, rest))
    (λ other. let rest = term_within f c n k (λ i less. low i (omega (arith, less))) (omega (arith, b, other)) in omega (arith, ints, times, last, rest))
    (cases_eq k n)

module _ (s : State) (start : ℤ) (h : IsBegun s start) where
  vertex_alone : (a : ℕ) → is_node s.graph.vertices s.blossoms a ≡ true → is_vertex s.graph.vertices a ≡ true
  vertex_alone a is =
      let here : is_node s.graph.vertices [] a ≡ true = subst (λ (bs : List Blossom). is_node s.graph.vertices bs a ≡ true) h.alone is in
      ⊎_elim (λ v. v) (λ f. absurd (both_ways false refl f)) (or_cases (is_vertex s.graph.vertices a) false here)

  total : dual_total s ≡ int_sum_to (λ i. s.dual (i + 1)) s.graph.vertices
  total = let more : duals_over s.dual (names_of s.blossoms) ≡ pos 0 = ap (λ (bs : List Blossom). duals_over s.dual (names_of bs)) h.alone in omega (arith, ints, more)

  each_low : (k : ℕ) → k < s.graph.vertices → start ≤ℤ s.dual (k + 1)
  each_low k b = h.low (k + 1) (range_vertex s.graph.vertices (k + 1) (omega arith) (omega (arith, b)))

  -- how much the duals have risen together is not below 0
  raised_low : pos 0 ≤ℤ (dual_total s -ℤ (pos s.graph.vertices *ℤ start))
  raised_low = let least = sum_least (λ i. s.dual (i + 1)) start s.graph.vertices each_low in let all = total in omega (arith, ints, least, all)

  vertex_within : (v : ℕ) → is_vertex s.graph.vertices v ≡ true → s.dual v ≤ℤ (start +ℤ (dual_total s -ℤ (pos s.graph.vertices *ℤ start)))
  vertex_within v is =
      let range = vertex_range s.graph.vertices v is in
      let back : v - 1 + 1 ≡ v = omega (arith, range.0) in
      let here : s.dual (v - 1 + 1) ≡ s.dual v = ap s.dual back in
      let most = term_within (λ i. s.dual (i + 1)) start s.graph.vertices (v - 1) each_low (omega (arith, range.0, range.1)) in
      let all = total in
      omega (arith, ints, most, here, all)

  pub bounded_begun : (s.weighted ≡ true → HasPerfect s.graph) → IsBounded s start
  bounded_begun perfect = by_test s.weighted
      (λ w. inr (record {
        weighted = w;
        perfect = perfect w;
        start_weight = h.start_weight;
        raised = dual_total s -ℤ (pos s.graph.vertices *ℤ start);
        low = raised_low;
        total = omega (arith, ints);
        vertices = λ v is. let low = h.low v is in let more = raised_low in (omega (arith, ints, low, more), vertex_within v is);
        blossoms = λ b name. absurd (both_ways false refl (subst (λ (bs : List Blossom). holds (names_of bs) b ≡ true) h.alone name));
      }))
      (λ w. inl (record { unweighted = w; zero = λ a is. h.unweighted w a (vertex_alone a is) }))
