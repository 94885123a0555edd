-- The items of `z` lines: vertices, and references to the sets of earlier lines.
use Rattle.std.specs.Prelude.{ℕ, ℤ, pos, neg_ℤ, int_le, ◌==◌, List, [], ◌∷◌, length, Bool, true}
use Rattle.std.specs.Prelude.{if◌then◌else◌, Option, None, Some}
use Rattle.std.specs.Fmt.{signed_decimal}
use Rattle.std.specs.Ordering.{int_eq}
use Rattle.mb_base.specs.Rows.{Row}
use Rattle.doc_format.specs.declared.part.SetItem.{SetItem}
use Rattle.doc_format.specs.declared.part.SetItem.TheVariants.{Vertex, Reference}
use Rattle.doc_format.specs.Numbers.{◌>>=◌, only_if, kept}

-- ---- what a field says

-- after `@`: a number without `-`
abbrev pub reference_in : List ℕ → Option SetItem
reference_in [] = None
reference_in (digit ∷ more) =
    if digit == 45 then None else (kept (digit ∷ more) >>= λ j. Some (Reference j))

-- `@` and a number is a reference, a number alone a vertex
abbrev pub item_in : List ℕ → Option SetItem
item_in [] = None
item_in (byte ∷ more) =
    if byte == 64 then reference_in more else (kept (byte ∷ more) >>= λ v. Some (Vertex v))

-- items alone
abbrev pub items : Row → Option (List SetItem)
items [] = Some []
items (field ∷ others) = item_in field >>= λ x. items others >>= λ xs. Some (x ∷ xs)

-- a count, and so many items
abbrev pub counted_items : Row → Option (List SetItem)
counted_items [] = None
counted_items (k ∷ others) =
    kept k >>= λ n. items others >>= λ xs. only_if (int_eq n (pos (length xs))) xs

-- a number, and a count with so many items
abbrev pub led_items : Row → Option (ℤ × List SetItem)
led_items [] = None
led_items (first ∷ others) = kept first >>= λ z. counted_items others >>= λ xs. Some (z, xs)

-- ---- how an item is written

-- a reference doesn't count backwards
abbrev pub is_item : SetItem → Bool
is_item (Vertex v) = true
is_item (Reference j) = int_le (pos 0) j

abbrev pub item_text : SetItem → List ℕ
item_text (Vertex v) = signed_decimal v
item_text (Reference j) = 64 ∷ signed_decimal j

-- an item as one number: that of the vertex, or the negative of that of the line which is referred
-- to
abbrev pub item_number : SetItem → ℤ
item_number (Vertex v) = v
item_number (Reference j) = neg_ℤ j
