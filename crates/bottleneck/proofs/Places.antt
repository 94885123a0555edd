-- The places of the weights of edges among the different ones, and the edges up to a weight.
use Rattle.graph_theory.proofs.Common.{◌≡◌, ℕ, ◌+◌, ◌<◌, ◌≤◌, ℤ, pos, ◌+ℤ◌, ◌≤ℤ◌, true, ◌∙◌, subst, inl, inr, arith, List, [], ◌∷◌}
use Rattle.graph_theory.proofs.Common.{◌++◌, length, int_lt, ints, cases_eq, cases_lt, eq-eqb, or_left, or_right, get_or_default, length_push, All-push, Multigraph, IsEdgeNumber}
use Rattle.graph_theory.proofs.Common.{edge_of, holds, holds-push}
use Rattle.bottleneck.specs.Halving.{AreLight, AreWeights, weight_at}

lt-below : (a b : ℤ) → int_lt a b ≡ true → (a +ℤ pos 1) ≤ℤ b
lt-below a b h = grind (arith, ints)

below-lt : (a b : ℤ) → (a +ℤ pos 1) ≤ℤ b → int_lt a b ≡ true
below-lt a b h = grind (arith, ints)

module _ (g : Multigraph) (ws : List ℤ) (are : AreWeights g ws) where
  rises : (i j : ℕ) → i ≤ j → j < length ws → weight_at ws i ≤ℤ weight_at ws j
  rises i j h b =
      elim (cases_eq i j) [
        | inl e ↦ rw e (omega (arith, ints))
        | inr d ↦ let less = lt-below (weight_at ws i) (weight_at ws j) (are.ascending i j (pos 0) (omega (arith, h, d)) b) in omega (arith, ints, less)
      ]

  place_of : (e : ℕ) → IsEdgeNumber g e → (p : ℕ) × (p < length ws) × (weight_at ws p ≡ (edge_of g e).w)
  place_of e is = let there = are.whole e is in (there.0, there.1, get_or_default ws there.0 (pos 0) (edge_of g e).w there.1 ∙ there.2)

  -- no weight lies between two places

  pub up_to-next : (t e : ℕ) → t + 1 < length ws → (edge_of g e).w ≤ℤ weight_at ws t → int_lt (edge_of g e).w (weight_at ws (t + 1)) ≡ true
  up_to-next t e b h =
      let less = lt-below (weight_at ws t) (weight_at ws (t + 1)) (are.ascending t (t + 1) (pos 0) (omega arith) b) in
      below-lt (edge_of g e).w (weight_at ws (t + 1)) (omega (arith, ints, less, h))

  pub next-up_to : (t e : ℕ) → t + 1 < length ws → IsEdgeNumber g e → int_lt (edge_of g e).w (weight_at ws (t + 1)) ≡ true → (edge_of g e).w ≤ℤ weight_at ws t
  next-up_to t e b is h =
      let p = place_of e is in
      let less = lt-below (edge_of g e).w (weight_at ws (t + 1)) h in
      elim (cases_lt t p.0) [
        | inl after ↦ let up = rises (t + 1) p.0 (omega (arith, after)) p.1 in absurd (omega (arith, ints, up, less, p.2))
        | inr before ↦ subst (λ (z : ℤ). z ≤ℤ weight_at ws t) p.2 (rises p.0 t before (omega (arith, b)))
      ]

  pub up_to-last : (t e : ℕ) → t + 1 ≡ length ws → IsEdgeNumber g e → (edge_of g e).w ≤ℤ weight_at ws t
  up_to-last t e last is =
      let p = place_of e is in
      subst (λ (z : ℤ). z ≤ℤ weight_at ws t) p.2 (rises p.0 t (omega (arith, last, p.1)) (omega (arith, last)))

  -- before a place up to which all weights are below a bound no weight keeps the bound
  pub none-before : (t e : ℕ) (bound : ℤ) → IsEdgeNumber g e → ((p : ℕ) → p < t → int_lt (weight_at ws p) bound ≡ true) → bound ≤ℤ (edge_of g e).w
      → (t < length ws → int_lt (edge_of g e).w (weight_at ws t) ≡ true) → t ≤ length ws → ⊥
  none-before t e bound is below keeps light few =
      let p = place_of e is in
      elim (cases_lt p.0 t) [
        | inl before ↦ let less = lt-below (weight_at ws p.0) bound (below p.0 before) in absurd (omega (arith, ints, less, keeps, p.2))
        | inr from ↦
            let less = lt-below (edge_of g e).w (weight_at ws t) (light (omega (arith, from, p.1))) in
            let up = rises t p.0 from p.1 in
            absurd (omega (arith, ints, up, less, p.2))
      ]

-- one light edge more
pub light-push : (g : Multigraph) (w : ℤ) (k : ℕ) (numbers : List ℕ) → IsEdgeNumber g (k + 1) → (edge_of g (k + 1)).w ≤ℤ w → AreLight g w k numbers
    → AreLight g w (k + 1) (numbers ++ (k + 1) ∷ [])
light-push g w k numbers is light are = record {
  size_limit = omega (arith, are.size_limit, length_push numbers (k + 1));
  each = All-push (λ e. IsEdgeNumber g e × ((edge_of g e).w ≤ℤ w)) numbers (k + 1) are.each (is, light);
  whole = λ e low high h. holds-push numbers (k + 1) e ∙ elim (cases_eq (k + 1) e) [
    | inl same ↦ or_right (holds numbers e) _ (eq-eqb (k + 1) e same)
    | inr other ↦ or_left (holds numbers e) _ (are.whole e low (omega (arith, high, other)) h)
  ];
}
