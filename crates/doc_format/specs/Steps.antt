-- What the reader does with one line after another.
use Rattle.std.specs.Prelude.{◌≡◌, ℕ, ◌+◌, ◌≤◌, List, [], ◌∷◌, ◌++◌, length, take, drop, true}
use Rattle.std.specs.Prelude.{false, if◌then◌else◌, Option, None, Some, Result, Ok, Err}
use Rattle.std.specs.List.{list_all}
use Rattle.mb_base.specs.Rows.{Row, is_skipped}
use Rattle.doc_format.specs.declared.part.Part.{Part}
use Rattle.doc_format.specs.declared.head.Head.{Head}
use Rattle.doc_format.specs.declared.document.Document.{Document}
use Rattle.doc_format.specs.declared.error.DocError.{DocError}
use Rattle.doc_format.specs.declared.error.DocError.TheVariants.{DocForm, OutOfMemory}
use Rattle.doc_format.specs.Form.{parts_of}
use Rattle.doc_format.specs.Rows.{head_at, part_at}
use Rattle.doc_format.specs.Reading.{may_stand, body_of, head_of, IsFirstRefused}

-- the parts and one more, where it may stand after them
abbrev pub with_part : Head → List Part → Option Part → Option (List Part)
with_part head parts None = None
with_part head parts (Some part) = if may_stand head parts part then Some (parts ++ part ∷ [])
    else None

-- the parts after line number n, where the line isn't refused
abbrev pub taken : Head → List Part → ℕ → Row → Option (List Part)
taken head parts n row = if is_skipped row then Some parts else with_part head parts (part_at n row)

abbrev pub Pushes : Document → Document → ℕ → Part → Result Unit DocError → Type 0
Pushes old new n part (Ok _) = (head_of new ≡ head_of old)
    × (with_part (head_of old) (parts_of (body_of old)) (Some part) ≡ Some (parts_of (body_of new)))
Pushes old new n part (Err (DocForm line)) = (line ≡ n)
    × (with_part (head_of old) (parts_of (body_of old)) (Some part) ≡ None)
Pushes old new n part (Err OutOfMemory) = Unit {0}

abbrev pub Takes : Document → Document → ℕ → Row → Result Unit DocError → Type 0
Takes old new n row (Ok _) = (head_of new ≡ head_of old)
    × (taken (head_of old) (parts_of (body_of old)) n row ≡ Some (parts_of (body_of new)))
Takes old new n row (Err (DocForm line)) = (line ≡ n)
    × (taken (head_of old) (parts_of (body_of old)) n row ≡ None)
Takes old new n row (Err OutOfMemory) = Unit {0}

-- ---- how far the lines have been read

-- the first lines are skipped, and the next one has this number
pub record Skips (n : ℕ) (rs : List Row) (number : ℕ) (left : List Row) : Type 0 where
  pub count : ℕ
  pub number_is : number ≡ n + count
  pub within : count ≤ length rs
  pub left_is : drop count rs ≡ left
  pub skipped : list_all is_skipped (take count rs) ≡ true

-- after skipped lines comes one that says this, and what is left follows it
pub record IsOpening (n : ℕ) (rs left : List Row) (head : Head) : Type 0 where
  pub row : Row
  pub skips : Skips n rs head.line (row ∷ left)
  pub there : is_skipped row ≡ false
  pub says : head_at head.line row ≡ Some head

-- the first refused line has this number
abbrev pub IsFault : ℕ → List Row → ℕ → Type 0
IsFault n rs number = (k : ℕ) × (number ≡ n + k) × IsFirstRefused n rs k
