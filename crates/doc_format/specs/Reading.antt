-- Which texts are documents, and which line is the first that makes a text none. Line k of a text,
-- from 0, has the number n + k.
use Rattle.std.specs.Prelude.{◌≡◌, ℕ, ◌+◌, ◌<◌, ◌⊎◌, List, [], ◌∷◌, length, take, slice_index_or}
use Rattle.std.specs.Prelude.{Bool, true, false, not, ◌&&◌, if◌then◌else◌, Option, None, Some}
use Rattle.std.specs.Prelude.{Result, Ok, Err, is_none}
use Rattle.std.specs.List.{list_all}
use Rattle.mb_base.specs.Rows.{Row, rows, is_skipped}
use Rattle.doc_format.specs.declared.part.Part.{Part}
use Rattle.doc_format.specs.declared.head.Head.{Head}
use Rattle.doc_format.specs.declared.document.Document.{Document}
use Rattle.doc_format.specs.declared.error.DocError.{DocError}
use Rattle.doc_format.specs.declared.error.DocError.TheVariants.{DocForm, OutOfMemory}
use Rattle.doc_format.specs.Form.{Body, parts_of, admits, may_follow}
use Rattle.doc_format.specs.Rows.{head_at, part_at}

-- ---- what lines say

-- what the first line that isn't skipped says, if it is one of the table
abbrev pub head_from : ℕ → List Row → Option Head
head_from n [] = None
head_from n (row ∷ rs) = if is_skipped row then head_from (n + 1) rs else head_at n row

abbrev pub onto : Option Part → List Part → List Part
onto None parts = parts
onto (Some part) parts = part ∷ parts

-- what the lettered lines say, in order
abbrev pub parts_from : ℕ → List Row → List Part
parts_from n [] = []
parts_from n (row ∷ rs) = onto (part_at n row) (parts_from (n + 1) rs)

-- ---- which line is refused

-- the letter stands in the row of the head, and each earlier part may be followed by this one
abbrev pub may_stand : Head → List Part → Part → Bool
may_stand head parts part = admits head.status head.kind part
    && list_all (λ earlier. may_follow earlier part) parts

abbrev pub stands : Head → List Part → Option Part → Bool
stands head parts None = false
stands head parts (Some part) = may_stand head parts part

-- a line that isn't skipped, after a head or none and the parts before it
abbrev pub refuses : Option Head → List Part → ℕ → Row → Bool
refuses None parts n row = is_none (head_at n row)
refuses (Some head) parts n row = not (stands head parts (part_at n row))

-- No document has this line after these earlier ones: it should be an `s` line of the table and
-- isn't; its letter isn't in the row of the head, or some earlier line has a later letter, or the
-- same where one is allowed; its numbers are none or their count is wrong; or some earlier line has
-- the same edge or vertex or a greater one, or members don't ascend.
abbrev pub is_refused : ℕ → List Row → Row → Bool
is_refused n earlier row = if is_skipped row then false
    else refuses (head_from n earlier) (parts_from n earlier) (n + length earlier) row

abbrev pub row_at : List Row → ℕ → Row
row_at rs k = slice_index_or rs k []

abbrev pub is_refused_at : ℕ → List Row → ℕ → Bool
is_refused_at n rs k = is_refused n (take k rs) (row_at rs k)

abbrev pub NoneRefusedBelow : ℕ → List Row → ℕ → Type 0
NoneRefusedBelow n rs k = (j : ℕ) → j < k → is_refused_at n rs j ≡ false

-- line k is the least that is refused, or all lines are skipped and it is the end
pub record IsFirstRefused (n : ℕ) (rs : List Row) (k : ℕ) : Type 0 where
  pub least : NoneRefusedBelow n rs k
  pub fault : ((k < length rs) × (is_refused_at n rs k ≡ true))
      ⊎ ((k ≡ length rs) × (list_all is_skipped rs ≡ true))

-- ---- what a text holds

abbrev pub body_of : Document → Body
body_of d = record {
  counts = d.counts;
  walk = d.walk;
  duals = d.duals;
  sets = d.sets;
  outer = d.outer;
  barrier = d.barrier;
  odd = d.odd;
  split = d.split;
  paths = d.paths;
}

abbrev pub head_of : Document → Head
head_of d = record { line = d.line; status = d.status; kind = d.kind; weight = d.weight }

-- no line is refused, and the first one and the others say what the document has
pub record HoldsDocument (n : ℕ) (rs : List Row) (d : Document) : Type 0 where
  pub none_refused : NoneRefusedBelow n rs (length rs)
  pub head : head_from n rs ≡ Some (head_of d)
  pub parts : parts_of (body_of d) ≡ parts_from n rs

-- ---- the answer of reading

abbrev pub ReadsRows : ℕ → List Row → Result Document DocError → Type 0
ReadsRows n rs (Ok d) = HoldsDocument n rs d
ReadsRows n rs (Err (DocForm line)) = (k : ℕ) × (line ≡ n + k) × IsFirstRefused n rs k
ReadsRows n rs (Err OutOfMemory) = Unit {0}

abbrev pub Reads : ℕ → List ℕ → Result Document DocError → Type 0
Reads n bytes answer = ReadsRows n (rows bytes) answer
