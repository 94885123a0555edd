use Rattle.graph_theory.proofs.Common.{◌≡◌, ℕ, ℤ, ◌<◌, ◌≤◌, ◌^◌, ◌*ℤ◌, ◌≤ℤ◌, pos, neg_ℤ, to_z, of_z, to_z-of_z, arith, ints, ap, subst, sym}
use Rattle.graph_theory.proofs.Common.{◌∙◌, mul-le}
use Rattle.std.proofs.Common.{negsuc, w64}
use Rattle.std.specs.Int.{w128}
use Rattle.std.proofs.lemmas.Int.{unsigned_abs-mul, fits_signed_mul}
use Rattle.std.specs.Int.RustNames.{FitsSigned, unsigned_abs}
use Rattle.mb_problem.proofs.measure.used_weight.Goals as goal

below : (z : ℤ) → FitsSigned w64 z → unsigned_abs z ≤ 2 ^ 63
below (pos n) fits = omega (arith, fits.sfits)
below (negsuc n) fits = omega (arith, fits.sfits)

record Between (z : ℤ) : Type 0 where
  low : neg_ℤ (pos (2 ^ 95)) ≤ℤ z
  high : z ≤ℤ pos (2 ^ 95)

between : (z : ℤ) → unsigned_abs z ≤ 2 ^ 95 → Between z
between (pos n) small = record { low = omega (arith, ints, small); high = omega (arith, ints, small) }
between (negsuc n) small = record { low = omega (arith, ints, small); high = omega (arith, ints, small) }

product : (n : ℕ) (z : ℤ) → n < 2 ^ 32 → FitsSigned w64 z → Between (pos n *ℤ z)
product n z small fits = between (pos n *ℤ z) (subst (λ k. k ≤ 2 ^ 95) (sym (unsigned_abs-mul (pos n) z))
    (mul-le n (unsigned_abs z) (2 ^ 32) (2 ^ 63) (omega (arith, small)) (below z fits)))

-- what the code multiplies, and what it gets
cast : (n : ℕ) (a z b : ℤ) → FitsSigned w128 a → FitsSigned w128 b → FitsSigned w64 z → a ≡ pos n → b ≡ to_z w64 (of_z w64 z)
    → to_z w128 (of_z w128 a) *ℤ to_z w128 (of_z w128 b) ≡ pos n *ℤ z
cast n a z b fits_a fits_b fits_z is_a is_b = ap (λ x. x *ℤ to_z w128 (of_z w128 b)) (to_z-of_z w128 a fits_a ∙ is_a)
    ∙ ap (λ x. pos n *ℤ x) (to_z-of_z w128 b fits_b ∙ is_b ∙ to_z-of_z w64 z fits_z)

factors : (c : goal.After-from-2) → to_z w128 (of_z w128 c.from.result) *ℤ to_z w128 (of_z w128 c.from-2.result) ≡ pos c.args.count *ℤ c.args.weight
factors c = cast c.args.count c.from.result c.args.weight c.from-2.result (record { sfits = c.from.type_inv }) (record { sfits = c.from-2.type_inv }) c.ranges.weight c.from.ensures
    c.from-2.ensures

fits : (c : goal.After-from-2) → FitsSigned w128 (pos c.args.count *ℤ c.args.weight)
fits c = fits_signed_mul w128 (pos c.args.count) c.args.weight (2 ^ 32) (2 ^ 63) (omega (arith, c.ranges.count.fits)) (below c.args.weight c.ranges.weight) (omega arith)

pub overflow_mul-result : goal.overflow_mul-result
overflow_mul-result c = subst (FitsSigned w128) (sym (factors c)) (fits c)

pub returns : goal.returns
returns c =
    let z = pos c.args.count *ℤ c.args.weight in
    let value : to_z w128 (of_z w128 (to_z w128 (of_z w128 c.from.result) *ℤ to_z w128 (of_z w128 c.from-2.result))) ≡ z =
    ap (λ x. to_z w128 (of_z w128 x)) (factors c) ∙ to_z-of_z w128
    z (fits c) in
    let bounds = product c.args.count c.args.weight c.ranges.count.fits c.ranges.weight in
    record { value = value; low = subst (λ x. neg_ℤ (pos (2 ^ 95)) ≤ℤ x) (sym value) bounds.low; high = subst (λ x. x ≤ℤ pos (2 ^ 95)) (sym value) bounds.high }
