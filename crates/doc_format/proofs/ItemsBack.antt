-- Items that are written are the items that are read.
use Rattle.mb_problem.proofs.Common.{◌≡◌, ℕ, zero, suc, Bool, true, false, eqb, List, [], ◌∷◌, length, map, Some, ℤ, pos, negsuc, neg_ℤ, refl, arith, list_all}
use Rattle.mb_problem.proofs.Common.{AllByRecursion, decimal, signed_decimal, and_parts, nat_tests, Decides-int_eq, length-map, is_digit, IsField}
use Rattle.std.specs.Ordering.{int_eq}
use Rattle.doc_format.specs.declared.part.SetItem.{SetItem}
use Rattle.doc_format.specs.declared.part.SetItem.TheVariants.{Vertex, Reference}
use Rattle.doc_format.specs.Numbers.{kept, with_count}
use Rattle.doc_format.specs.Items.{reference_in, item_in, items, counted_items, led_items, is_item, item_text, item_number}
use Rattle.doc_format.specs.Law.{IsKept}
use Rattle.doc_format.specs.Parts.{Role, node_number, set_number, item_passes}
use Rattle.doc_format.proofs.Fields.{HasFields}
use Rattle.doc_format.proofs.NumbersBack.{IsDecimal, decimal_is, digit_no_minus, kept_back, number_is_field}

-- ---- the sign of a number doesn't matter

neg_kept : (z : ℤ) → IsKept z → IsKept (neg_ℤ z)
neg_kept (pos zero) h = h
neg_kept (pos (suc n)) h = h
neg_kept (negsuc n) h = h

kept_neg : (z : ℤ) → IsKept (neg_ℤ z) → IsKept z
kept_neg (pos zero) h = h
kept_neg (pos (suc n)) h = h
kept_neg (negsuc n) h = h

-- ---- written and read

digit_no_mark : (d : ℕ) → is_digit d ≡ true → eqb d 64 ≡ false
digit_no_mark d h = grind (arith, nat_tests)

vertex_digits : (n : ℕ) (ds : List ℕ) → IsDecimal n ds → kept ds ≡ Some (pos n) → item_in ds ≡ Some (Vertex (pos n))
vertex_digits n [] h k = absurd (omega (arith, h.0))
vertex_digits n (d ∷ ds) h k = rw (digit_no_mark d (and_parts (is_digit d) (list_all is_digit ds) h.1).0, k) refl

reference_digits : (n : ℕ) (ds : List ℕ) → IsDecimal n ds → kept ds ≡ Some (pos n) → reference_in ds ≡ Some (Reference (pos n))
reference_digits n [] h k = absurd (omega (arith, h.0))
reference_digits n (d ∷ ds) h k = rw (k, digit_no_minus d (and_parts (is_digit d) (list_all is_digit ds) h.1).0) refl

item_back : (x : SetItem) → is_item x ≡ true → IsKept (item_number x) → item_in (item_text x) ≡ Some x
item_back (Vertex (pos n)) f h = vertex_digits n (decimal n) (decimal_is n (omega arith)) (kept_back (pos n) h)
item_back (Vertex (negsuc n)) f h = rw (kept_back (negsuc n) h) refl
item_back (Reference (pos n)) f h = let k = kept_neg (pos n) h in reference_digits n (decimal n) (decimal_is n (omega arith)) (kept_back (pos n) k)
item_back (Reference (negsuc n)) f h = absurd cc

items_back : (xs : List SetItem) → list_all is_item xs ≡ true → AllByRecursion IsKept (map item_number xs) → items (map item_text xs) ≡ Some xs
items_back [] f h = refl
items_back (x ∷ xs) f h = let both = and_parts (is_item x) (list_all is_item xs) f in rw (item_back x both.0 h.0, items_back xs both.1 h.1) refl

counted_items_back : (xs : List SetItem) → list_all is_item xs ≡ true → AllByRecursion IsKept (with_count (map item_number xs)) →
    counted_items (signed_decimal (pos (length xs)) ∷ map item_text xs) ≡ Some xs
counted_items_back xs f h =
    let count : IsKept (pos (length xs)) = omega (arith, h.0, length-map xs item_number) in
    let e : int_eq (pos (length xs)) (pos (length xs)) ≡ true = (Decides-int_eq (pos (length xs)) (pos (length xs))).1 refl in
    rw (kept_back (pos (length xs)) count, items_back xs f h.1, e) refl

pub led_items_back : (z : ℤ) (xs : List SetItem) → list_all is_item xs ≡ true → AllByRecursion IsKept (z ∷ with_count (map item_number xs)) →
    led_items (signed_decimal z ∷ signed_decimal (pos (length xs)) ∷ map item_text xs) ≡ Some (z, xs)
led_items_back z xs f h = rw (kept_back z h.0, counted_items_back xs f h.1) refl

-- ---- items are fields

item_is_field : (x : SetItem) → IsKept (item_number x) → IsField (item_text x)
item_is_field (Vertex v) h = number_is_field v h
item_is_field (Reference j) h = (omega arith, (number_is_field j (kept_neg j h)).1)

items_are_fields : (xs : List SetItem) → AllByRecursion IsKept (map item_number xs) → HasFields (map item_text xs)
items_are_fields [] h = tt
items_are_fields (x ∷ xs) h = (item_is_field x h.0, items_are_fields xs h.1)

pub led_items_are_fields : (z : ℤ) (xs : List SetItem) → AllByRecursion IsKept (z ∷ with_count (map item_number xs)) →
    HasFields (signed_decimal z ∷ signed_decimal (pos (length xs)) ∷ map item_text xs)
led_items_are_fields z xs h =
    let count : IsKept (pos (length xs)) = omega (arith, h.1.0, length-map xs item_number) in
    (number_is_field z h.0, (number_is_field (pos (length xs)) count, items_are_fields xs h.1.1))

-- ---- items that pass a test of kept numbers are kept

module _ (ok : Role → ℤ → Bool) (keeps : (r : Role) (z : ℤ) → ok r z ≡ true → IsKept z) where
  kept_item : (x : SetItem) → item_passes ok x ≡ true → IsKept (item_number x)
  kept_item (Vertex v) h = keeps node_number v h
  kept_item (Reference j) h = neg_kept j (keeps set_number j h)

  pub kept_items : (xs : List SetItem) → list_all (item_passes ok) xs ≡ true → AllByRecursion IsKept (map item_number xs)
  kept_items [] h = tt
  kept_items (x ∷ xs) h = let both = and_parts (item_passes ok x) (list_all (item_passes ok) xs) h in (kept_item x both.0, kept_items xs both.1)
