-- What tests on whole numbers say.
use Rattle.std.proofs.Common.{◌≡◌, ℕ, ◌+◌, ℤ, ◌≤ℤ◌, true, eqb, arith}
use Rattle.std.specs.Prelude.{int_le}
use Rattle.std.proofs.lemmas.Bool.Decides.{nat_tests}
use Rattle.std.proofs.lemmas.Int.{ints}

pub int_le-true : (a b : ℤ) → int_le a b ≡ true → a ≤ℤ b
int_le-true a b h = grind (arith, ints)

pub int_le-yes : (a b : ℤ) → a ≤ℤ b → int_le a b ≡ true
int_le-yes a b h = grind (arith, ints)

pub eqb-shift : (a b n : ℕ) → eqb (a + n) (b + n) ≡ eqb a b
eqb-shift a b n = grind (arith, nat_tests)
