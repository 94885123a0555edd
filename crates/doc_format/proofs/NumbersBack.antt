-- Numbers that are written are the numbers that are kept.
use Rattle.mb_problem.proofs.Common.{nat_abs, ◌≡◌, ℕ, suc, ◌+◌, ◌%◌, ◌<◌, ◌≤◌, ◌^◌, true, false, eqb, min, List, [], ◌∷◌, length, map, Some, ℤ, pos}
use Rattle.mb_problem.proofs.Common.{negsuc, neg_ℤ, refl, ap, ◌∙◌, arith, option_map, list_all, AllByRecursion, decimal, signed_decimal, and_parts, nat_tests, Decides-int_eq}
use Rattle.mb_problem.proofs.Common.{decimal_by_steps, length_push, is_digit, value_from, natural, numeral, clamped, is_plain, IsField, NUMBER_LIMIT, value_from-push}
use Rattle.std.specs.Ordering.{int_eq}
use Rattle.doc_format.proofs.Fields.{HasFields}
use Rattle.doc_format.proofs.Tests.{list_all-push}
use Rattle.doc_format.specs.Law.{IsKept}
use Rattle.doc_format.specs.Numbers.{kept, numbers, counted, with_count}

abbrev pub IsDecimal : ℕ → List ℕ → Type 0
IsDecimal n ds = (0 < length ds) × (list_all is_digit ds ≡ true) × (value_from 0 ds ≡ n)

digit_passes : (d : ℕ) → d < 10 → is_digit (48 + d) ≡ true
digit_passes d h = grind (arith, nat_tests)

pub decimal_is : (n : ℕ) → n < 2 ^ 64 → IsDecimal n (decimal n)
decimal_is = decimal_by_steps IsDecimal
    (λ n h. (omega arith, rw (digit_passes n h) refl, omega arith))
    (λ n ds le h. (
      omega (arith, length_push ds (48 + n % 10)),
      list_all-push is_digit ds (48 + n % 10) h.1 (digit_passes (n % 10) (omega arith)),
      value_from-push 0 ds (48 + n % 10)
          ∙ omega (arith, h.2),
    ))

natural-digits : (n : ℕ) (ds : List ℕ) → IsDecimal n ds → natural ds ≡ Some n
natural-digits n [] h = absurd (omega (arith, h.0))
natural-digits n (d ∷ ds) h = rw h.1 (ap (λ (k : ℕ). Some k) h.2)

pub digit_no_minus : (d : ℕ) → is_digit d ≡ true → eqb d 45 ≡ false
digit_no_minus d h = grind (arith, nat_tests)

numeral-digits : (n : ℕ) (ds : List ℕ) → IsDecimal n ds → numeral ds ≡ Some (pos n)
numeral-digits n [] h = absurd (omega (arith, h.0))
numeral-digits n (d ∷ ds) h =
    let minus = digit_no_minus d (and_parts (is_digit d) (list_all is_digit ds) h.1).0 in
    let value = natural-digits n (d ∷ ds) h in
    rw (minus, value) refl

numeral_back : (z : ℤ) → IsKept z → numeral (signed_decimal z) ≡ Some z
numeral_back (pos n) h = numeral-digits n (decimal n) (decimal_is n (omega arith))
numeral_back (negsuc n) h = ap (option_map (λ (k : ℕ). neg_ℤ (pos k))) (natural-digits (suc n) (decimal (suc n)) (decimal_is (suc n) (omega arith)))

min_is : (n m : ℕ) → n ≤ m → min n m ≡ n
min_is n m h = omega arith

clamped_is : (z : ℤ) → IsKept z → clamped (nat_abs NUMBER_LIMIT) z ≡ z
clamped_is (pos n) h = ap (λ (k : ℕ). pos k) (min_is n (nat_abs NUMBER_LIMIT + 1) (omega arith))
clamped_is (negsuc n) h = ap (λ (k : ℕ). negsuc k) (min_is n (nat_abs NUMBER_LIMIT) (omega arith))

pub kept_back : (z : ℤ) → IsKept z → kept (signed_decimal z) ≡ Some z
kept_back z h = ap (option_map (clamped (nat_abs NUMBER_LIMIT))) (numeral_back z h) ∙ ap (λ (y : ℤ). Some y) (clamped_is z h)

pub numbers_back : (zs : List ℤ) → AllByRecursion IsKept zs → numbers (map signed_decimal zs) ≡ Some zs
numbers_back [] h = refl
numbers_back (z ∷ zs) h = rw (kept_back z h.0, numbers_back zs h.1) refl

pub counted_back : (zs : List ℤ) → AllByRecursion IsKept (with_count zs) → counted (map signed_decimal (with_count zs)) ≡ Some zs
counted_back zs h =
    let e : int_eq (pos (length zs)) (pos (length zs)) ≡ true = (Decides-int_eq (pos (length zs)) (pos (length zs))).1 refl in
    rw (kept_back (pos (length zs)) h.0, numbers_back zs h.1, e) refl

-- ---- numbers are fields

digit_plain : (d : ℕ) → is_digit d ≡ true → is_plain d ≡ true
digit_plain d h = grind (arith, nat_tests)

digits_plain : (ds : List ℕ) → list_all is_digit ds ≡ true → list_all is_plain ds ≡ true
digits_plain [] h = refl
digits_plain (d ∷ ds) h = let p = and_parts (is_digit d) (list_all is_digit ds) h in rw (digit_plain d p.0) (digits_plain ds p.1)

pub number_is_field : (z : ℤ) → IsKept z → IsField (signed_decimal z)
number_is_field (pos n) h = let d = decimal_is n (omega arith) in (d.0, digits_plain (decimal n) d.1)
number_is_field (negsuc n) h = let d = decimal_is (suc n) (omega arith) in (omega (arith, d.0), digits_plain (decimal (suc n)) d.1)

pub numbers_are_fields : (zs : List ℤ) → AllByRecursion IsKept zs → HasFields (map signed_decimal zs)
numbers_are_fields [] h = tt
numbers_are_fields (z ∷ zs) h = (number_is_field z h.0, numbers_are_fields zs h.1)
