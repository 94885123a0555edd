-- Lemmas on a pass over a list of places, which adds a number to the total at each.
use Rattle.graph_theory.proofs.Common.{◌≡◌, ◌∙◌, sym, ap, subst, refl, inl, inr, arith, set, ℕ, ◌+◌, ◌<◌, ◌≤◌, ℤ, pos, ◌+ℤ◌, Bool, true, false, cond, eqb}
use Rattle.graph_theory.proofs.Common.{◌||◌, List, length, get_or, take, ints, cases_eq, eq-eqb, eqb-true, ne_eqb, false≢true, get_or_read, take_all, IsStrictlyIncreasing, Multigraph}
use Rattle.graph_theory.proofs.Common.{IsEdgeNumber, edge_of, edges_around, touches, holds, holds-take, not_before, same_tests, number_at, around-is, around-has, around-ascending}
use Rattle.std.proofs.Common.{get_or-set_same, get_or-set_other}
use Rattle.dual_check.specs.Crossed.{total_at, AddsAt, IsWithin}

-- one total
pub added_at : (old : List ℤ) (q : ℕ) (z more : ℤ) → q < length old → z ≡ (total_at old q +ℤ more) → (p : ℕ)
    → total_at (set old q z) p ≡ (total_at old p +ℤ cond (eqb q p) more (pos 0))
added_at old q z more b value p = elim (cases_eq q p) [
  | inl same ↦ subst (λ (x : ℕ). total_at (set old q z) x ≡ (total_at old x +ℤ cond (eqb q x) more (pos 0))) same
      (get_or-set_same old q z (pos 0) b ∙ value ∙ ap (λ t. total_at old q +ℤ cond t more (pos 0)) (sym (eq-eqb q q refl)))
  | inr differ ↦
      get_or-set_other old q p z (pos 0) (λ e. differ (sym e)) ∙ omega (arith, ints, ap (λ t. cond t more (pos 0)) (ne_eqb q p differ))
]

-- at each of the first i places of a list what is given there is added
pub record IsGiven (xs : List ℕ) (i : ℕ) (given : ℕ → ℤ) (old now : List ℤ) : Type 0 where
  pub size : length now ≡ length old
  pub exact : (w : ℕ) → total_at now w ≡ (total_at old w +ℤ cond (holds (take i xs) w) (given w) (pos 0))

added : (h q : Bool) (y a z : ℤ) → (q ≡ true → h ≡ false) → (q ≡ true → a ≡ y) → ((z +ℤ cond h y (pos 0)) +ℤ cond q a (pos 0)) ≡ (z +ℤ cond (h || q) y (pos 0))
added true true y a z apart same = absurd (false≢true (sym (apart refl)))
added true false y a z apart same = omega (arith, ints)
added false true y a z apart same = (let is = same refl in omega (arith, ints, is))
added false false y a z apart same = omega (arith, ints)

module _ (xs : List ℕ) (i x q : ℕ) (given : ℕ → ℤ) (old now : List ℤ) (up : IsStrictlyIncreasing xs) (b : i < length xs) (at : x ≡ get_or xs i x) (same : q ≡ x)
    (so : IsGiven xs i given old now) where
  here : q ≡ get_or xs i 0
  here = same ∙ get_or_read xs i x b at 0

  fresh : holds (take i xs) q ≡ false
  fresh = ap (holds (take i xs)) here ∙ not_before xs i up b

  -- the total at the next place is what it was
  pub given_new : total_at now q ≡ (total_at old q +ℤ pos 0)
  given_new = so.exact q ∙ ap (λ t. total_at old q +ℤ cond t (given q) (pos 0)) fresh

  -- it is given its number
  pub given_next : (a : ℤ) (new : List ℤ) → a ≡ given x → length new ≡ length now → ((w : ℕ) → total_at new w ≡ (total_at now w +ℤ cond (eqb q w) a (pos 0)))
      → IsGiven xs (i + 1) given old new
  given_next a new value size exact = record {
    size = size ∙ so.size;
    exact = λ w.
        let more : holds (take (i + 1) xs) w ≡ (holds (take i xs) w || eqb q w) = holds-take xs i w b ∙ ap (λ z. holds (take i xs) w || eqb z w) (sym here) in
        exact w ∙ ap (λ z. z +ℤ cond (eqb q w) a (pos 0)) (so.exact w) ∙ added (holds (take i xs) w) (eqb q w) (given w) a (total_at old w)
        (λ e. ap (holds (take i xs)) (sym (eqb-true q w e)) ∙ fresh) (λ e. value ∙ ap given (sym same ∙ eqb-true q w e))
        ∙ sym (ap (λ t. total_at old w +ℤ cond t (given w) (pos 0)) more);
  }

-- ---- the edges at a vertex

pub ascend : (g : Multigraph) (v : ℕ) (xs : List ℕ) → xs ≡ edges_around g v → IsStrictlyIncreasing xs
ascend g v xs is = subst IsStrictlyIncreasing (sym is) (around-ascending g v)

module _ (g : Multigraph) (v : ℕ) (xs : List ℕ) (given : ℕ → ℤ) (old now : List ℤ) (is : xs ≡ edges_around g v) where
  -- the next edge has a total, which is not too large
  pub edge_there : (i x q : ℕ) → i < length xs → x ≡ get_or xs i x → q ≡ x → length old ≡ length g.edges + 1 → ((e : ℕ) → IsEdgeNumber g e
      → IsWithin 3 (total_at old e)) → IsGiven xs i given old now → (q < length now) × IsWithin 3 (total_at now q)
  edge_there i x q b at same size small so =
      let number = (number_at g v xs i x is b at).0 in
      let new = given_new xs i x q given old now (ascend g v xs is) b at same so in
      let before = small q (omega (arith, number.0, same), omega (arith, number.1, same)) in
      (omega (arith, number.1, same, size, so.size), (omega (arith, ints, new, before.0), omega (arith, ints, new, before.1)))

  -- at the end each edge at the vertex has its number
  pub given_all : (i : ℕ) → length xs ≤ i → IsGiven xs i given old now → AddsAt g v given old now
  given_all i past so = record {
    size = so.size;
    exact = λ e b.
        so.exact e ∙ ap (λ (zs : List ℕ). total_at old e +ℤ cond (holds zs e) (given e) (pos 0)) (take_all i xs past)
        ∙ ap (λ t. total_at old e +ℤ cond t (given e) (pos 0)) (same_tests (holds xs e) (touches (edge_of g e) v)
        (λ h. (around-is g v e (ap (λ (ys : List ℕ). holds ys e) (sym is) ∙ h)).1) (λ t. ap (λ (ys : List ℕ). holds ys e) is ∙ around-has g v e b t));
  }
