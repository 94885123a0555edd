-- How long the texts of documents are.
use Rattle.certificates.proofs.Common.{◌≡◌, ℕ, suc, ◌+◌, ◌*◌, ◌<◌, ◌≤◌, ℤ, pos, negsuc, neg_ℤ, ◌≤ℤ◌, List, [], ◌∷◌, ◌++◌, length, map, All}
use Rattle.certificates.proofs.Common.{nat_abs, sym, ap, ◌∙◌, subst, arith, flat_map, decimal, signed_decimal, ints, length-decimal-le, length_signed_le, length-append, map-append}
use Rattle.certificates.proofs.Common.{All-head, All-tail, GRAPH_VERTEX_LIMIT, IsNumber, Row, Part, after_space, row_text, spaced, part_row, parts_text, IsUpTo}
use Rattle.std.proofs.lemmas.List.Concat.{flat_map-append}

-- numbers

pub short_number : (z : ℤ) → IsNumber z → length (signed_decimal z) ≤ 20
short_number (pos n) h =
    let high : pos n ≤ℤ pos 1000000000000000000 = h.1 in
    let small : n ≤ 1000000000000000000 = omega (arith, ints) in
    length_signed_le 19 (pos n) (omega arith) (omega arith)
short_number (negsuc n) h =
    let low : neg_ℤ (pos 1000000000000000000) ≤ℤ negsuc n = h.0 in
    let small : n < 1000000000000000000 = omega (arith, ints) in
    length_signed_le 19 (negsuc n) (omega arith) (omega arith)

short_decimal : (n : ℕ) → n ≤ 65536 → length (decimal n) ≤ 5
short_decimal n h = length-decimal-le 5 n (omega arith) (omega arith) (omega arith)

pub short_place : (n : ℕ) (z : ℤ) → n ≤ 65536 → IsUpTo n z → length (signed_decimal z) ≤ 5
short_place n z most h =
    let low : pos 1 ≤ℤ z = h.low in
    let high : z ≤ℤ pos n = h.high in
    let is : z ≡ pos (nat_abs z) = omega (arith, ints) in
    subst (λ (y : ℤ). length (signed_decimal y) ≤ 5) (sym is) (short_decimal (nat_abs z) (omega (arith, ints)))

pub short_vertex : (n : ℕ) (z : ℤ) → n ≤ GRAPH_VERTEX_LIMIT → IsUpTo n z → length (signed_decimal z) ≤ 5
short_vertex n z few h = (let most : n ≤ 16384 = few in short_place n z (omega arith) h)

-- numbers with a space before each, of at most c bytes
pub spaced-most : (c : ℕ) (zs : List ℤ) → All (λ z. length (signed_decimal z) ≤ c) zs → length (spaced zs) ≤ length zs * (c + 1)
spaced-most c [] h = omega arith
spaced-most c (z ∷ zs) h =
    let first : length (signed_decimal z) ≤ c = All-head (λ z. length (signed_decimal z) ≤ c) z zs h in
    let rest : length (spaced zs) ≤ length zs * (c + 1) = spaced-most c zs (All-tail (λ z. length (signed_decimal z) ≤ c) z zs h) in
    let split : length (spaced (z ∷ zs)) ≡ suc (length (signed_decimal z)) + length (spaced zs) = length-append (after_space (signed_decimal z)) (spaced zs) in
    let more : suc (length zs) * (c + 1) ≡ length zs * (c + 1) + (c + 1) = omega arith in
    omega arith

-- fields with a space before each, of at most c bytes
pub fields-most : (c : ℕ) (fields : Row) → All (λ f. length f ≤ c) fields → length (flat_map after_space fields) ≤ length fields * (c + 1)
fields-most c [] h = omega arith
fields-most c (f ∷ fs) h =
    let first : length f ≤ c = All-head (λ f. length f ≤ c) f fs h in
    let rest : length (flat_map after_space fs) ≤ length fs * (c + 1) = fields-most c fs (All-tail (λ f. length f ≤ c) f fs h) in
    let split : length (flat_map after_space (f ∷ fs)) ≡ suc (length f) + length (flat_map after_space fs) = length-append (after_space f) (flat_map after_space fs) in
    let more : suc (length fs) * (c + 1) ≡ length fs * (c + 1) + (c + 1) = omega arith in
    omega arith

-- lines

-- a letter, the numbers and a line feed
pub row-length : (first : List ℕ) (fields : Row) → length (row_text (first ∷ fields)) ≡ length first + length (flat_map after_space fields) + 1
row-length first fields = omega (arith, length-append first (flat_map after_space fields ++ 10 ∷ []), length-append (flat_map after_space fields) (10 ∷ []))

pub size-append : (xs ys : List Part) → length (parts_text (xs ++ ys)) ≡ length (parts_text xs) + length (parts_text ys)
size-append xs ys =
    let rows : map part_row (xs ++ ys) ≡ map part_row xs ++ map part_row ys = map-append part_row xs ys in
    ap (λ (rs : List Row). length (flat_map row_text rs)) rows
    ∙ (ap length (flat_map-append row_text (map part_row xs) (map part_row ys)) ∙ length-append (parts_text xs) (parts_text ys))

-- lines of at most c bytes
pub size-most : (c : ℕ) (ps : List Part) → All (λ p. length (row_text (part_row p)) ≤ c) ps → length (parts_text ps) ≤ length ps * c
size-most c [] h = omega arith
size-most c (p ∷ ps) h =
    let first : length (row_text (part_row p)) ≤ c = All-head (λ p. length (row_text (part_row p)) ≤ c) p ps h in
    let rest : length (parts_text ps) ≤ length ps * c = size-most c ps (All-tail (λ p. length (row_text (part_row p)) ≤ c) p ps h) in
    let split : length (parts_text (p ∷ ps)) ≡ length (row_text (part_row p)) + length (parts_text ps) = length-append (row_text (part_row p)) (parts_text ps) in
    let more : suc (length ps) * c ≡ length ps * c + c = omega arith in
    omega arith
