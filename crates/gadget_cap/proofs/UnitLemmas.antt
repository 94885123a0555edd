-- Units that are taken after one another, and where a test passes.
use Rattle.graph_theory.proofs.Common.{◌≡◌, ℕ, ◌+◌, ◌<◌, Bool, true, false, cond, eqb, refl, ap, sym, ◌∙◌, arith, zero-add, sum_to-same, sum_to-append}
use Rattle.gadget_base.proofs.Common.{taken, pick-here}

-- units after one another from a copy on
pub taken-append : (s x z c : ℕ) → taken s (x + z) c ≡ taken s x c + taken (s + x) z c
taken-append s x z c =
    sum_to-append _ x z ∙ ap (λ y. taken s x c + y) (sum_to-same _ _ z (λ y _. let e : s + (x + y) ≡ s + x + y = omega arith in ap (λ p. cond {A = ℕ} (eqb p c) 1 0) e))

-- units that are taken where a test passes
pub taken-if : (p : Bool) (s x c : ℕ) → cond p (taken s x c) 0 ≡ taken s (cond p x 0) c
taken-if true s x c = refl
taken-if false s x c = refl

-- units from the start and those after them take each place once
pub taken-two : (x z j : ℕ) → j < x + z → taken 0 x j + taken x z j ≡ 1
taken-two x z j h =
    let one : taken 0 (x + z) j ≡ 1 = ap (λ p. taken 0 (x + z) p) (sym (zero-add j)) ∙ pick-here 0 (x + z) (λ _. 1) j h in
    omega (arith, taken-append 0 x z j, one, ap (λ s. taken s z j) (zero-add x))
