-- Where as many components of odd size are known as a matching misses vertices and the removed set has members, they are all.
use Rattle.graph_theory.proofs.Common.{◌≡◌, ℕ, ◌+◌, ◌-◌, ◌*◌, ◌%◌, ◌≤◌, true, eqb, refl, ap, ◌∙◌, subst, inl, inr, arith, List, ◌∷◌, length, get_or}
use Rattle.graph_theory.proofs.Common.{slice_index, filter, range_with_len, cases_Bool, or_cases, eqb-true, length-range_with_len, get_or-range_with_len, filter_passes}
use Rattle.graph_theory.proofs.Common.{IsStrictlyIncreasing-filter, any-filter_same, Multigraph, IsGraph, holds, AllDiffer, AreTogether, IsComponent, IsOddHead, IsOddCount, holds_at}
use Rattle.graph_theory.proofs.Common.{holds_all, all_holds, holds_first, differ-cons, ascending-differ, range-ascending, same_length-differ, head-within}
use Rattle.gallai_theory.specs.Matchings.{edges_used, IsMatched, IsBorder}
use Rattle.gallai_theory.specs.Decomposition.{IsDecomposed}
use Rattle.gallai_theory.proofs.Berge.{heads_few}

-- the least vertices of different components of odd size, as many as there can be
pub record AreMostHeads (g : Multigraph) (removed counts heads : List ℕ) : Type 0 where
  pub differ : AllDiffer heads
  pub odd : (v : ℕ) → holds heads v ≡ true → IsOddHead g removed v
  pub most : length heads + 2 * edges_used g counts ≡ g.vertices + length removed

-- what is true of one more and of all others
one_more : (P : ℕ → Type 0) (v : ℕ) (vs : List ℕ) → P v → ((w : ℕ) → holds vs w ≡ true → P w) → (w : ℕ) → holds (v ∷ vs) w ≡ true → P w
one_more P v vs here rest w h = elim (or_cases (eqb v w) (holds vs w) h) [ inl same ↦ subst P (eqb-true v w same) here | inr later ↦ rest w later ]

-- the members of a list among the numbers 1 to n, ascending
abbrev sorted : ℕ → List ℕ → List ℕ
sorted n vs = filter (holds vs) (range_with_len 1 n)

sorted-holds : (n : ℕ) (vs : List ℕ) (v : ℕ) → (1 ≤ v) × (v ≤ n) → holds (sorted n vs) v ≡ holds vs v
sorted-holds n vs v range =
    let long : length (range_with_len 1 n) ≡ n = length-range_with_len 1 n in
    let at : get_or (range_with_len 1 n) (v - 1) 0 ≡ 1 + (v - 1) = get_or-range_with_len 1 n (v - 1) 0 (omega (arith, range.0, range.1)) in
    let same : get_or (range_with_len 1 n) (v - 1) 0 ≡ v = omega (arith, at, range.0) in
    let there : holds (range_with_len 1 n) v ≡ true = subst (λ (x : ℕ). holds (range_with_len 1 n) x ≡ true) same
    (holds_at (range_with_len 1 n) (v - 1) 0 (omega (arith, long, range.0, range.1))) in
    any-filter_same (λ x. eqb x v) (holds vs) (holds vs v) (λ x e. ap (holds vs) (eqb-true x v e)) (range_with_len 1 n) ∙ rw there (grind arith)

sorted-of : (n : ℕ) (vs : List ℕ) (v : ℕ) → holds (sorted n vs) v ≡ true → holds vs v ≡ true
sorted-of n vs v h = holds_all (λ x. holds vs x ≡ true) (sorted n vs) v (filter_passes (holds vs) (range_with_len 1 n)) h

module _ (g : Multigraph) (removed counts heads : List ℕ) (ok : IsGraph g) (m : IsMatched g counts) (are : AreMostHeads g removed counts heads) where
  -- no other component has odd size
  pub heads_all : (v : ℕ) → IsOddHead g removed v → holds heads v ≡ true
  heads_all v head =
      elim (cases_Bool (holds heads v)) [
        | inl there ↦ there
        | inr off ↦ absurd (
            omega (arith, heads_few g removed counts (v ∷ heads) ok m (differ-cons v heads off are.differ) (one_more (IsOddHead g removed) v heads head are.odd), are.most))
      ]

  -- so each component of odd size has one of these heads
  pub head_in : (component : List ℕ) → IsComponent g removed component → length component % 2 ≡ 1 → (v : ℕ) × (holds heads v ≡ true) × (holds component v ≡ true)
  head_in component is odd = (slice_index component 0, heads_all (slice_index component 0) (component, is, odd, refl), holds_first component is.some)

  -- .. and their number is the count
  pub heads_counted : IsOddCount g removed (length heads)
  heads_counted =
      let n = g.vertices in
      let within : (v : ℕ) → holds heads v ≡ true → (1 ≤ v) × (v ≤ n) = λ v h. head-within g removed v (are.odd v h) in
      let to : (v : ℕ) → holds heads v ≡ true → holds (sorted n heads) v ≡ true = λ v h. sorted-holds n heads v (within v h) ∙ h in
      let up = IsStrictlyIncreasing-filter (holds heads) (range_with_len 1 n) (range-ascending n) in
      record {
        heads = sorted n heads;
        ascending = up;
        exact = λ v. ((λ h. are.odd v (sorted-of n heads v h)), (λ head. to v (heads_all v head)));
        size = same_length-differ n (sorted n heads) heads (ascending-differ (sorted n heads) up) are.differ
            (all_holds (λ v. (1 ≤ v) × (v ≤ n)) (sorted n heads) (λ v h. within v (sorted-of n heads v h))) (all_holds (λ v. (1 ≤ v) × (v ≤ n)) heads within)
            (sorted-of n heads) to;
      }

  -- where a set holds each of these components and has the removed set as its border, the matching decomposes the graph
  pub heads_decompose : (set : List ℕ) → IsBorder g set removed → ((v w : ℕ) → holds heads v ≡ true → AreTogether g removed v w → holds set w ≡ true)
      → IsDecomposed g (edges_used g counts) set removed
  heads_decompose set border spreads = record {
    is_border = border;
    odd = length heads;
    counted = heads_counted;
    enough = are.most;
    inside = λ component w is odd h. let p = head_in component is odd in spreads p.0 w p.1 (is.joined p.0 w p.2 h);
  }
