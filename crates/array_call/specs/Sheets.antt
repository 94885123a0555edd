-- The parts of the numbers of an answer, and the lines that they are.
use Rattle.std.specs.Prelude.{◌≡◌, ℕ, ◌+◌, ℤ, pos, ◌≤ℤ◌, List, [], ◌++◌, length, take, drop, All}
use Rattle.std.specs.Prelude.{slice_index_or, true, Option, None, Some}
use Rattle.mb_problem.specs.declared.kind.AnswerForm.{AnswerForm}
use Rattle.mb_problem.specs.declared.kind.AnswerForm.TheVariants as form
use Rattle.doc_format.specs.declared.part.CountLine.{CountLine}
use Rattle.doc_format.specs.declared.part.WalkLine.{WalkLine}
use Rattle.doc_format.specs.declared.part.SetLine.{SetLine}
use Rattle.doc_format.specs.Form.{AscendsBy}
use Rattle.doc_format.specs.Items.{is_item}
use Rattle.doc_format.specs.Parts.{has_any}
use Rattle.certificates.specs.Within.{IsUpTo}
use Rattle.array_call.specs.declared.parting.Parts.{Parts}

-- ---- the parts

pub record Sheet : Type 0 where
  pub head : List ℤ
  pub answer : List ℤ
  pub duals : List ℤ
  pub leads : List ℤ
  pub offsets : List ℤ
  pub items : List ℤ
  pub excluding : List ℤ

abbrev pub sheet_of : Parts → Sheet
sheet_of p = record {
  head = p.head.now;
  answer = p.answer.now;
  duals = p.duals.now;
  leads = p.leads.now;
  offsets = p.offsets.now;
  items = p.items.now;
  excluding = p.excluding.now;
}

-- the first number of a part, where it says how long another is
abbrev pub number_at : List ℤ → ℕ → ℤ
number_at numbers k = slice_index_or numbers k (pos 0)

-- the numbers begin with these parts, one after another, each as long as the first of them says
pub record IsParted (numbers : List ℤ) (s : Sheet) : Type 0 where
  pub head : length s.head ≡ 8
  pub answer : number_at s.head 3 ≡ pos (length s.answer)
  pub duals : number_at s.head 4 ≡ pos (length s.duals)
  pub leads : number_at s.head 5 ≡ pos (length s.leads)
  pub offsets : length s.offsets ≡ length s.leads + 1
  pub items : number_at s.head 6 ≡ pos (length s.items)
  pub excluding : number_at s.head 7 ≡ pos (length s.excluding)
  pub rest : List ℤ
  pub whole : numbers ≡ s.head ++ (s.answer ++ (s.duals ++ (s.leads ++ (s.offsets ++ (s.items
      ++ (s.excluding ++ rest))))))

-- the first offsets, items and members, one offset more than there are leads, and as many items and
-- members as the head says
pub record IsListed (head : List ℤ) (count : ℕ) (numbers offsets items excluding : List ℤ) : Type 0
  where
    pub offset_count : length offsets ≡ count + 1
    pub item_count : number_at head 6 ≡ pos (length items)
    pub excluding_count : number_at head 7 ≡ pos (length excluding)
    pub rest : List ℤ
    pub whole : numbers ≡ offsets ++ (items ++ (excluding ++ rest))

-- ---- the lines

-- a line of one of m edges, with a nonnegative count
abbrev pub IsCountOn : ℕ → CountLine → Type 0
IsCountOn m x = IsUpTo m x.edge × (pos 0 ≤ℤ x.count)

-- a walk has an edge, if there is one
abbrev pub HasEdges : Option WalkLine → Type 0
HasEdges None = Unit {0}
HasEdges (Some w) = has_any w.edges ≡ true

-- the lines of an answer of a form on m edges: counts with ascending edges, or a walk
abbrev pub AreIn : AnswerForm → ℕ → List CountLine → Option WalkLine → Type 0
AreIn form.Counts m counts walk = AscendsBy (λ x. x.edge) counts × All (IsCountOn m) counts
    × (walk ≡ None)
AreIn form.Walk m counts walk = (counts ≡ []) × HasEdges walk

-- no reference of the set is negative
abbrev pub HasItems : SetLine → Type 0
HasItems z = All (λ x. is_item x ≡ true) z.items

-- counts are as many as edges, and none is negative
abbrev pub IsAnswerOn : AnswerForm → ℕ → List ℤ → Type 0
IsAnswerOn form.Counts m numbers = (length numbers ≡ m) × All (λ z. pos 0 ≤ℤ z) numbers
IsAnswerOn form.Walk m numbers = Unit {0}

-- the items of a list are those from its offset up to the next
pub record IsListAt (offsets items : List ℤ) (k : ℕ) (list : List ℤ) : Type 0 where
  pub first : ℕ
  pub size : ℕ
  pub begins : slice_index_or offsets k (pos 0) ≡ pos first
  pub ends : slice_index_or offsets (k + 1) (pos 0) ≡ pos (first + size)
  pub list_is : list ≡ take size (drop first items)
