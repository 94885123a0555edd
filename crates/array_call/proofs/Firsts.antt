-- The first place at which a rule is broken.
use Rattle.graph_theory.proofs.Common.{◌≡◌, ℕ, zero, suc, ◌+◌, ◌<◌, Option, None, Some, refl, ap, sym, ◌∙◌, arith, inl, inr, option_map, option_or, cases_eq}
use Rattle.array_call.specs.declared.rule.ArrayRule.{ArrayRule}
use Rattle.array_call.specs.declared.rule.ArrayFault.{ArrayFault}
use Rattle.array_call.specs.Faults.{fault, first}

pub neither : (a b : Option ArrayFault) → option_or a b ≡ None → (a ≡ None) × (b ≡ None)
neither None b e = (refl, e)
neither (Some f) b e = absurd cc

unmapped : (o : Option ArrayRule) (n : ℕ) → option_map (λ rule. fault rule n) o ≡ None → o ≡ None
unmapped None n e = refl
unmapped (Some rule) n e = absurd cc

module _ (rule_at : ℕ → Option ArrayRule) where
  -- no rule is broken at a place below a number where none is found
  pub none-below : (n k : ℕ) → first rule_at n ≡ None → k < n → rule_at k ≡ None
  none-below zero k e h = absurd (omega arith)
  none-below (suc n) k e h =
      let parts = neither (first rule_at n) (option_map (λ rule. fault rule (n + 1)) (rule_at n)) e in
      elim (cases_eq k n) [
        | inl same ↦ ap rule_at same ∙ unmapped (rule_at n) (n + 1) parts.1
        | inr other ↦ none-below n k parts.0 (omega arith)
      ]

  -- one place more without a fault
  pub none-more : (k : ℕ) → first rule_at k ≡ None → rule_at k ≡ None → first rule_at (k + 1) ≡ None
  none-more k before here =
      ap (first rule_at) (let e : k + 1 ≡ suc k = omega arith in e)
      ∙ ap (λ (o : Option ArrayFault). option_or o (option_map (λ rule. fault rule (k + 1)) (rule_at k))) before ∙ ap (option_map (λ rule. fault rule (k + 1))) here

  -- the first place with a fault, behind places without one
  pub first-found : (n k : ℕ) (rule : ArrayRule) → first rule_at k ≡ None → rule_at k ≡ Some rule → k < n → first rule_at n ≡ Some (fault rule (k + 1))
  first-found zero k rule before here h = absurd (omega arith)
  first-found (suc n) k rule before here h =
      elim (cases_eq k n) [
        | inl same ↦
            ap (first rule_at) (ap suc (sym same))
            ∙ ap (λ (o : Option ArrayFault). option_or o (option_map (λ r. fault r (k + 1)) (rule_at k))) before
            ∙ ap (option_map (λ r. fault r (k + 1))) here
        | inr other ↦ ap (λ (o : Option ArrayFault). option_or o (option_map (λ r. fault r (n + 1)) (rule_at n))) (first-found n k rule before here (omega arith))
      ]
