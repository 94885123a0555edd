-- Rows that are written are the rows that are read.
use Rattle.mb_problem.proofs.Common.{◌≡◌, ℕ, ◌-◌, ◌<◌, Bool, true, false, not, ◌&&◌, eqb, List, [], ◌∷◌, ◌++◌, length, map, refl, sym, ap, ◌∙◌}
use Rattle.mb_problem.proofs.Common.{append_assoc, arith, flat_map, list_all, AllByRecursion, strip_carriage_return, and_parts, slice_split_at, slice_split_none, All-from_recursion}
use Rattle.mb_problem.proofs.Common.{append-nil, is_line_feed, closed, raw_lines, is_blank, is_nonempty, fields, Row, rows, closed-split, is_plain, IsField}
use Rattle.std.proofs.Common.{filter}
use Rattle.doc_format.proofs.Fields.{HasFields}
use Rattle.doc_format.specs.Spelling.{after_space, row_text}

-- the bytes of a line before its line feed
abbrev line_of : Row → List ℕ
line_of [] = []
line_of (field ∷ others) = field ++ flat_map after_space others

row_text-is : (row : Row) (rest : List ℕ) → row_text row ++ rest ≡ line_of row ++ 10 ∷ rest
row_text-is [] rest = refl
row_text-is (field ∷ others) rest =
    append_assoc field (flat_map after_space others ++ 10 ∷ []) rest
    ∙ ap (λ (l : List ℕ). field ++ l) (append_assoc (flat_map after_space others) (10 ∷ []) rest)
    ∙ sym (append_assoc field (flat_map after_space others) (10 ∷ rest))

-- ---- plain bytes

plain_parts : (x y z : Bool) → (not x && (not y && not z)) ≡ true → (x ≡ false) × (y ≡ false) × (z ≡ false)
plain_parts false false false h = (refl, refl, refl)
plain_parts false false true h = absurd cc
plain_parts false true z h = absurd cc
plain_parts true y z h = absurd cc

plain_is : (b : ℕ) → is_plain b ≡ true → (is_blank b ≡ false) × (eqb b 10 ≡ false) × (eqb b 13 ≡ false)
plain_is b h = plain_parts (is_blank b) (eqb b 10) (eqb b 13) h

no_blank : (field : List ℕ) → list_all is_plain field ≡ true → AllByRecursion (λ b. is_blank b ≡ false) field
no_blank [] h = tt
no_blank (b ∷ bs) h = let p = and_parts (is_plain b) (list_all is_plain bs) h in ((plain_is b p.0).0, no_blank bs p.1)

-- ---- fields

field_nonempty : (field : List ℕ) → 0 < length field → is_nonempty field ≡ true
field_nonempty [] h = absurd (omega arith)
field_nonempty (b ∷ bs) h = refl

fields-first : (field rest : List ℕ) → IsField field → fields (field ++ 32 ∷ rest) ≡ field ∷ fields rest
fields-first field rest h =
    ap (filter is_nonempty) (slice_split_at is_blank field 32 rest (All-from_recursion (λ b. is_blank b ≡ false) field (no_blank field h.1)) refl)
    ∙ rw (field_nonempty field h.0) refl

fields-last : (field : List ℕ) → IsField field → fields field ≡ field ∷ []
fields-last field h =
    ap (filter is_nonempty) (slice_split_none is_blank field (All-from_recursion (λ b. is_blank b ≡ false) field (no_blank field h.1)))
    ∙ rw (field_nonempty field h.0) refl

fields-line : (row : Row) → HasFields row → fields (line_of row) ≡ row
fields-line [] h = refl
fields-line (f ∷ []) h = ap fields (append-nil f) ∙ fields-last f h.0
fields-line (f ∷ g ∷ fs) h = fields-first f (line_of (g ∷ fs)) h.0 ∙ ap (λ (l : Row). f ∷ l) (fields-line (g ∷ fs) h.1)

-- ---- lines: no byte of a line ends it

abbrev ends_nothing : ℕ → Type 0
ends_nothing b = (eqb b 10 ≡ false) × (eqb b 13 ≡ false)

all-append : (P : ℕ → Type 0) (xs ys : List ℕ) → AllByRecursion P xs → AllByRecursion P ys → AllByRecursion P (xs ++ ys)
all-append P [] ys h k = k
all-append P (x ∷ xs) ys h k = (h.0, all-append P xs ys h.1 k)

field_ends_nothing : (field : List ℕ) → list_all is_plain field ≡ true → AllByRecursion ends_nothing field
field_ends_nothing [] h = tt
field_ends_nothing (b ∷ bs) h = let p = and_parts (is_plain b) (list_all is_plain bs) h in let q = plain_is b p.0 in ((q.1, q.2), field_ends_nothing bs p.1)

others_end_nothing : (others : Row) → HasFields others → AllByRecursion ends_nothing (flat_map after_space others)
others_end_nothing [] h = tt
others_end_nothing (f ∷ fs) h = ((refl, refl), all-append ends_nothing f (flat_map after_space fs) (field_ends_nothing f h.0.1) (others_end_nothing fs h.1))

line_ends_nothing : (row : Row) → HasFields row → AllByRecursion ends_nothing (line_of row)
line_ends_nothing [] h = tt
line_ends_nothing (f ∷ fs) h = all-append ends_nothing f (flat_map after_space fs) (field_ends_nothing f h.0.1) (others_end_nothing fs h.1)

raw_lines-line : (line rest : List ℕ) → AllByRecursion ends_nothing line → raw_lines (line ++ 10 ∷ rest) ≡ line ∷ raw_lines rest
raw_lines-line line rest h =
    let each = All-from_recursion ends_nothing line h in
    ap closed (slice_split_at is_line_feed line 10 rest (λ k d lt. (each k d lt).0) refl) ∙ closed-split line rest

strip-line : (line : List ℕ) → AllByRecursion ends_nothing line → strip_carriage_return line ≡ line
strip-line [] h = refl
strip-line (b ∷ bs) h =
    let each = All-from_recursion ends_nothing (b ∷ bs) h in
    let last = (each (length (b ∷ bs) - 1) 0 (omega arith)).1 in
    rw last refl

-- rows of fields are written and read as they are
pub rows_back : (rs : List Row) → AllByRecursion HasFields rs → rows (flat_map row_text rs) ≡ rs
rows_back [] h = refl
rows_back (row ∷ rs) h =
    let quiet = line_ends_nothing row h.0 in
    let cut : raw_lines (flat_map row_text (row ∷ rs)) ≡ line_of row ∷ raw_lines (flat_map row_text rs) = ap raw_lines (row_text-is row (flat_map row_text rs))
    ∙ raw_lines-line (line_of row) (flat_map row_text rs) quiet in
    ap (λ (ls : List (List ℕ)). map fields (map strip_carriage_return ls)) cut
    ∙ ap (λ (l : List ℕ). fields l ∷ rows (flat_map row_text rs)) (strip-line (line_of row) quiet)
    ∙ ap (λ (r : Row). r ∷ rows (flat_map row_text rs)) (fields-line row h.0)
    ∙ ap (λ (l : List Row). row ∷ l) (rows_back rs h.1)
