use Rattle.graph_theory.proofs.Common.{◌≡◌, ℤ, pos, ◌+ℤ◌, ◌*ℤ◌, arith, rules, FitsSigned, w64, int_div, int_rem, ints, quot-rem, rem_is}
use Rattle.state_check.proofs.parity.left_by_two.Goals as goal

twice : (x r q l : ℤ) → q *ℤ pos 2 +ℤ r ≡ x → l ≡ r → (half : ℤ) × (x ≡ l +ℤ (half +ℤ half))
twice x r q l e f = (q, omega (arith, ints))

pub returns-clause-left : goal.returns-clause-left
returns-clause-left c =
    let x : ℤ = c.args.x in
    let fits : FitsSigned w64 x = search rules in
    let two : FitsSigned w64 (pos 2) = search rules in
    twice x (int_rem x (pos 2)) (int_div x (pos 2)) _ (quot-rem x (pos 2)) (rem_is w64 x (pos 2) fits two)
