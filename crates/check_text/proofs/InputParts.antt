-- The two parts of an input: the instance's lines and what follows them.
use Rattle.graph_theory.proofs.Common.{◌≡◌, ◌≢◌, ℕ, zero, suc, ◌+◌, ◌<◌, true, false, List, [], ◌∷◌, ◌++◌, length, map, take, drop, Option, None, Some, refl}
use Rattle.graph_theory.proofs.Common.{sym, ap, ◌∙◌, inl, inr, append_assoc, arith, slice_split, onto_first, after_first, position, position_or_len, option_map, strip_carriage_return}
use Rattle.graph_theory.proofs.Common.{cases_Bool, map-append, length-map, slice_split-cons_yes, slice_split-cons_no}
use Rattle.std.proofs.Common.{append-nil}
use Rattle.mb_base.specs.Text.{is_line_feed, closed, raw_lines, fields}
use Rattle.mb_base.specs.Rows.{Row, rows}
use Rattle.mb_base.proofs.LineLemmas.{raw_lines_first, raw_lines_last, after_first_some, after_first_none}
use Rattle.dimacs_read.specs.Rows.{instance_rows, is_solution}
use Rattle.dimacs_read.specs.Format.{first_place}
use Rattle.dimacs_read.specs.declared.rest.Rest.{Rest}
use Rattle.dimacs_read.specs.Rest.{after_lines, IsRest}
use Rattle.dimacs_read.proofs.EndLemmas.{first_place-within}

-- ---- a text whose last byte is a line feed, and more behind it

-- there is a first part
some_part : (bytes : List ℕ) → (first : List ℕ) × (more : List (List ℕ)) × (slice_split is_line_feed bytes ≡ first ∷ more)
some_part [] = ([], [], refl)
some_part (b ∷ bytes) =
    let parts = some_part bytes in
    elim (cases_Bool (is_line_feed b)) [
      | inl yes' ↦ ([], slice_split is_line_feed bytes, slice_split-cons_yes is_line_feed b bytes yes')
      | inr no' ↦ (b ∷ parts.0, parts.1, slice_split-cons_no is_line_feed b bytes no' ∙ ap (onto_first b) parts.2)
    ]

onto_first-append : (b : ℕ) (xs ys : List (List ℕ)) (first : List ℕ) (more : List (List ℕ)) → xs ≡ first ∷ more → onto_first b (xs ++ ys) ≡ onto_first b xs ++ ys
onto_first-append b xs ys first more e = rw e refl

split_twice : (front rest : List ℕ) → slice_split is_line_feed (front ++ 10 ∷ rest) ≡ slice_split is_line_feed front ++ slice_split is_line_feed rest
split_twice [] rest = refl
split_twice (b ∷ front) rest =
    let parts = some_part front in
    elim (cases_Bool (is_line_feed b)) [
      | inl yes' ↦
          slice_split-cons_yes is_line_feed b (front ++ 10 ∷ rest) yes'
          ∙ ap (λ (l : List (List ℕ)). [] ∷ l) (split_twice front rest)
          ∙ sym (ap (λ (l : List (List ℕ)). l ++ slice_split is_line_feed rest) (slice_split-cons_yes is_line_feed b front yes'))
      | inr no' ↦
          slice_split-cons_no is_line_feed b (front ++ 10 ∷ rest) no'
          ∙ ap (onto_first b) (split_twice front rest)
          ∙ onto_first-append b (slice_split is_line_feed front) (slice_split is_line_feed rest) parts.0 parts.1 parts.2
          ∙ sym (ap (λ (l : List (List ℕ)). l ++ slice_split is_line_feed rest) (slice_split-cons_no is_line_feed b front no'))
    ]

-- no part but the last is left out
closed-append : (xs : List (List ℕ)) (first : List ℕ) (more : List (List ℕ)) → closed (xs ++ first ∷ more) ≡ xs ++ closed (first ∷ more)
closed-append [] first more = refl
closed-append (x ∷ []) first more = refl
closed-append (x ∷ y ∷ xs) first more = ap (λ (l : List (List ℕ)). x ∷ l) (closed-append (y ∷ xs) first more)

raw_lines-ended : (front rest : List ℕ) → raw_lines (front ++ 10 ∷ rest) ≡ slice_split is_line_feed front ++ raw_lines rest
raw_lines-ended front rest =
    let parts = some_part rest in
    ap closed (split_twice front rest)
    ∙ ap (λ (l : List (List ℕ)). closed (slice_split is_line_feed front ++ l)) parts.2
    ∙ closed-append (slice_split is_line_feed front) parts.0 parts.1
    ∙ ap (λ (l : List (List ℕ)). slice_split is_line_feed front ++ closed l) (sym parts.2)

rows_of-append : (xs ys : List (List ℕ)) → map fields (map strip_carriage_return (xs ++ ys)) ≡ map fields (map strip_carriage_return xs) ++ map fields (map strip_carriage_return ys)
rows_of-append xs ys = ap (map fields) (map-append strip_carriage_return xs ys) ∙ map-append fields (map strip_carriage_return xs) (map strip_carriage_return ys)

rows-ended : (front rest : List ℕ) → rows (front ++ 10 ∷ rest) ≡ map fields (map strip_carriage_return (slice_split is_line_feed front)) ++ rows rest
rows-ended front rest = ap (λ (ls : List (List ℕ)). map fields (map strip_carriage_return ls)) (raw_lines-ended front rest) ∙ rows_of-append (slice_split is_line_feed front) (raw_lines rest)

rows-front : (front : List ℕ) → rows (front ++ 10 ∷ []) ≡ map fields (map strip_carriage_return (slice_split is_line_feed front))
rows-front front = rows-ended front [] ∙ append-nil (map fields (map strip_carriage_return (slice_split is_line_feed front)))

-- the rows of both are those of the one and then those of the other
pub rows-both : (front rest : List ℕ) → rows ((front ++ 10 ∷ []) ++ rest) ≡ rows (front ++ 10 ∷ []) ++ rows rest
rows-both front rest =
    ap rows (append_assoc front (10 ∷ []) rest)
    ∙ rows-ended front rest
    ∙ ap (λ (l : List Row). l ++ rows rest) (sym (rows-front front))

-- ---- the bytes after some lines

after_first-yes : (b : ℕ) (bytes : List ℕ) → is_line_feed b ≡ true → after_first is_line_feed (b ∷ bytes) ≡ bytes
after_first-yes b bytes h = rw h refl

after_first-no : (b : ℕ) (bytes : List ℕ) → is_line_feed b ≡ false → after_first is_line_feed (b ∷ bytes) ≡ after_first is_line_feed bytes
after_first-no b bytes h =
    let at = position_or_len is_line_feed bytes in
    let e : (1 + at) + 1 ≡ suc (at + 1) = omega arith in
    rw h (ap (λ (k : ℕ). drop k (b ∷ bytes)) e)

after_front : (front rest : List ℕ) → after_lines (length (slice_split is_line_feed front)) (front ++ 10 ∷ rest) ≡ rest
after_front [] rest = refl
after_front (b ∷ front) rest =
    let parts = some_part front in
    let more = after_front front rest in
    elim (cases_Bool (is_line_feed b)) [
      | inl yes' ↦
          ap (λ (l : List (List ℕ)). after_lines (length l) (b ∷ (front ++ 10 ∷ rest))) (slice_split-cons_yes is_line_feed b front yes')
          ∙ ap (after_lines (length (slice_split is_line_feed front))) (after_first-yes b (front ++ 10 ∷ rest) yes')
          ∙ more
      | inr no' ↦
          ap (λ (l : List (List ℕ)). after_lines (length l) (b ∷ (front ++ 10 ∷ rest))) (slice_split-cons_no is_line_feed b front no' ∙ ap (onto_first b) parts.2)
          ∙ ap (after_lines (length parts.1)) (after_first-no b (front ++ 10 ∷ rest) no')
          ∙ ap (λ (l : List (List ℕ)). after_lines (length l) (front ++ 10 ∷ rest)) (sym parts.2)
          ∙ more
    ]

rows-count : (front : List ℕ) → length (rows (front ++ 10 ∷ [])) ≡ length (slice_split is_line_feed front)
rows-count front =
    ap length (rows-front front)
    ∙ length-map (map strip_carriage_return (slice_split is_line_feed front)) fields
    ∙ length-map (slice_split is_line_feed front) strip_carriage_return

pub after-both : (front rest : List ℕ) → after_lines (length (rows (front ++ 10 ∷ []))) ((front ++ 10 ∷ []) ++ rest) ≡ rest
after-both front rest =
    ap (λ (k : ℕ). after_lines k ((front ++ 10 ∷ []) ++ rest)) (rows-count front)
    ∙ ap (after_lines (length (slice_split is_line_feed front))) (append_assoc front (10 ∷ []) rest)
    ∙ after_front front rest

-- ---- the lines of an instance and the first line of an answer

none_map : (o : Option ℕ) → option_map (λ (k : ℕ). suc k) o ≡ None → o ≡ None
none_map None h = refl
none_map (Some k) h = absurd cc

-- the first row is no answer's, and none of the others is
none_after : (row : Row) (rs : List Row) → first_place is_solution (row ∷ rs) ≡ None → (is_solution row ≡ false) × (first_place is_solution rs ≡ None)
none_after row rs h = elim (cases_Bool (is_solution row)) [
  | inl yes' ↦ (let found : first_place is_solution (row ∷ rs) ≡ Some 0 = rw yes' refl in absurd cc)
  | inr no' ↦ (no', none_map (first_place is_solution rs) (sym (rw no' refl) ∙ h))
]

pub instance-alone : (rs : List Row) → first_place is_solution rs ≡ None → instance_rows rs ≡ rs
instance-alone [] h = refl
instance-alone (row ∷ rs) h = let n = none_after row rs h in rw n.0 (ap (λ (l : List Row). row ∷ l) (instance-alone rs n.1))

pub instance-before : (rs : List Row) (row : Row) (more : List Row) → first_place is_solution rs ≡ None → is_solution row ≡ true → instance_rows (rs ++ row ∷ more) ≡ rs
instance-before [] row more h is = rw is refl
instance-before (r ∷ rs) row more h is = let n = none_after r rs h in rw n.0 (ap (λ (l : List Row). r ∷ l) (instance-before rs row more n.1 is))

-- ---- what follows the instance

-- a text that isn't empty has a first row, and the others are those of what follows its first line feed
first_row_at : (bytes : List ℕ) (end : Option ℕ) → position is_line_feed bytes ≡ end → 0 < length bytes → (row : Row) × (rows bytes ≡ row ∷ rows (after_first is_line_feed bytes))
first_row_at bytes (Some end) at some = (
  fields (strip_carriage_return (take end bytes)),
  ap (λ (ls : List (List ℕ)). map fields (map strip_carriage_return ls)) (raw_lines_first bytes end at)
      ∙ ap (λ (l : List ℕ). fields (strip_carriage_return (take end bytes)) ∷ rows l) (sym (after_first_some bytes end at)),
)
first_row_at bytes None at some = (
  fields (strip_carriage_return bytes),
  ap (λ (ls : List (List ℕ)). map fields (map strip_carriage_return ls)) (raw_lines_last bytes at some)
      ∙ ap (λ (l : List ℕ). fields (strip_carriage_return bytes) ∷ rows l) (sym (after_first_none bytes at)),
)

first_row : (bytes : List ℕ) → 0 < length bytes → (row : Row) × (rows bytes ≡ row ∷ rows (after_first is_line_feed bytes))
first_row bytes some = first_row_at bytes (position is_line_feed bytes) refl some

-- so many rows are left after the first
fewer_rows : (bytes : List ℕ) (n : ℕ) → 0 < length bytes → length (rows bytes) ≡ suc n → length (rows (after_first is_line_feed bytes)) ≡ n
fewer_rows bytes n some size = (let first = first_row bytes some in let more : length (rows bytes) ≡ suc (length (rows (after_first is_line_feed bytes))) = ap length first.1 in omega arith)

after_all : (n : ℕ) (bytes : List ℕ) → length (rows bytes) ≡ n → after_lines n bytes ≡ []
after_all zero [] size = refl
after_all zero (b ∷ bytes) size =
    (let first = first_row (b ∷ bytes) (omega arith) in let more : length (rows (b ∷ bytes)) ≡ suc (length (rows (after_first is_line_feed (b ∷ bytes)))) =
    ap length first.1 in absurd (omega arith))
after_all (suc n) [] size = absurd cc
after_all (suc n) (b ∷ bytes) size = after_all n (after_first is_line_feed (b ∷ bytes)) (fewer_rows (b ∷ bytes) n (omega arith) size)

after_some : (k : ℕ) (bytes : List ℕ) → k < length (rows bytes) → after_lines k bytes ≢ []
after_some k [] lt none = absurd (omega arith)
after_some zero (b ∷ bytes) lt none = absurd cc
after_some (suc k) (b ∷ bytes) lt none =
    let first = first_row (b ∷ bytes) (omega arith) in
    let more : length (rows (b ∷ bytes)) ≡ suc (length (rows (after_first is_line_feed (b ∷ bytes)))) = ap length first.1 in
    after_some k (after_first is_line_feed (b ∷ bytes)) (omega arith) none

some_map : (o : Option ℕ) (k : ℕ) → option_map (λ (j : ℕ). suc j) o ≡ Some k → (j : ℕ) × (o ≡ Some j) × (k ≡ suc j)
some_map None k h = absurd cc
some_map (Some j) k h = (j, refl, (let e : suc j ≡ k = cc in sym e))

-- the instance's lines are those before the first of an answer
place_is : (rs : List Row) (k : ℕ) → first_place is_solution rs ≡ Some k → length (instance_rows rs) ≡ k
place_is [] k h = absurd cc
place_is (row ∷ rs) k h = elim (cases_Bool (is_solution row)) [
  | inl yes' ↦ (let found : Some 0 ≡ Some k = sym (rw yes' refl) ∙ h in let first : 0 ≡ k = cc in rw yes' first)
  | inr no' ↦
      (let later : option_map (λ (j : ℕ). suc j) (first_place is_solution rs) ≡ Some k = sym (rw no' refl) ∙ h in
      let found = some_map (first_place is_solution rs) k later in
      rw no' (ap suc (place_is rs found.0 found.1) ∙ sym found.2))
]

rest_at : (bytes : List ℕ) (o : Option ℕ) → first_place is_solution (rows bytes) ≡ o → after_lines (length (instance_rows (rows bytes))) bytes ≡ [] → o ≡ None
rest_at bytes None at empty = refl
rest_at bytes (Some k) at empty =
    absurd (after_some (length (instance_rows (rows bytes))) bytes
    (let within = first_place-within is_solution (rows bytes) k at in let size = place_is (rows bytes) k at in omega arith) empty)

pub place_none : (bytes : List ℕ) → after_lines (length (instance_rows (rows bytes))) bytes ≡ [] → first_place is_solution (rows bytes) ≡ None
place_none bytes empty = rest_at bytes (first_place is_solution (rows bytes)) refl empty

-- nothing follows the instance exactly where no line is an answer's
pub rest_empty : (bytes : List ℕ) (rest : Rest) → IsRest bytes rest → rest.bytes ≡ [] → first_place is_solution (rows bytes) ≡ None
rest_empty bytes rest is empty = place_none bytes (sym is.bytes_are ∙ empty)

some_at : (bytes : List ℕ) (line : ℕ) (o : Option ℕ) → first_place is_solution (rows bytes) ≡ o → line ≡ length (instance_rows (rows bytes)) + 1 →
    after_lines (length (instance_rows (rows bytes))) bytes ≢ [] → (k : ℕ) × (o ≡ Some k) × (line ≡ k + 1)
some_at bytes line None at is some = absurd (some (after_all (length (instance_rows (rows bytes))) bytes (ap length (sym (instance-alone (rows bytes) at)))))
some_at bytes line (Some k) at is some = (k, refl, is ∙ ap (λ (n : ℕ). n + 1) (place_is (rows bytes) k at))

pub rest_some : (bytes : List ℕ) (rest : Rest) → IsRest bytes rest → rest.bytes ≢ [] → (k : ℕ) × (first_place is_solution (rows bytes) ≡ Some k) × (rest.line ≡ k + 1)
rest_some bytes rest is some = some_at bytes rest.line (first_place is_solution (rows bytes)) refl is.line_is (λ none. some (is.bytes_are ∙ none))
