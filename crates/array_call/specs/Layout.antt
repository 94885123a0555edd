-- A document as numbers.
use Rattle.std.specs.Prelude.{ℕ, ◌+◌, ℤ, pos, List, [], ◌∷◌, ◌++◌, map, length, take, Bool, true}
use Rattle.std.specs.Prelude.{false, Option, None, Some}
use Rattle.std.specs.List.{flat_map}
use Rattle.mb_problem.specs.declared.kind.AnswerForm.{AnswerForm}
use Rattle.mb_problem.specs.declared.kind.AnswerForm.TheVariants as form
use Rattle.gadget_base.specs.Blocks.{tabled}
use Rattle.doc_format.specs.declared.document.Document.{Document}
use Rattle.doc_format.specs.declared.status.DocStatus.{DocStatus}
use Rattle.doc_format.specs.declared.status.DocStatus.TheVariants.{Optimal, Infeasible}
use Rattle.doc_format.specs.declared.status.DocStatus.TheVariants.{NonConservative}
use Rattle.doc_format.specs.declared.part.DualLine.{DualLine}
use Rattle.doc_format.specs.declared.part.SetLine.{SetLine}
use Rattle.doc_format.specs.declared.part.PathLine.{PathLine}
use Rattle.doc_format.specs.Items.{item_number}
use Rattle.doc_format.specs.declared.part.WalkLine.{WalkLine}
use Rattle.doc_format.specs.declared.part.MemberLine.{MemberLine}
use Rattle.certificates.specs.Claims.{counts_of}
use Rattle.solve_answers.specs.declared.detail.Detail.{Detail}
use Rattle.solve_answers.specs.Details.{is_brief}

-- ---- the parts

abbrev pub status_number : DocStatus → ℤ
status_number Optimal = pos 1
status_number Infeasible = pos 2
status_number NonConservative = pos 3

-- where a walk starts; 0 if there is none
abbrev pub start_number : Option WalkLine → ℤ
start_number None = pos 0
start_number (Some w) = w.start

abbrev pub walk_numbers : Option WalkLine → List ℤ
walk_numbers None = []
walk_numbers (Some w) = w.edges

-- the count of each of m edges, or the edges of the walk
abbrev pub answer_numbers : AnswerForm → ℕ → Document → List ℤ
answer_numbers form.Counts m d = map pos (counts_of d.counts m)
answer_numbers form.Walk m d = walk_numbers d.walk

-- the members of a set of vertices, if there is one
abbrev pub listed_members : Option MemberLine → List ℤ
listed_members None = []
listed_members (Some u) = u.members

-- the members of what excludes all answers: a barrier, an odd part or a split part; or of the
-- barrier or border beside a best answer
abbrev pub excluding : Document → List ℤ
excluding d = listed_members d.barrier ++ (listed_members d.odd ++ listed_members d.split)

-- what the lists of a certificate begin with: the duals of sets, and the vertices of paths
abbrev pub leads : List SetLine → List PathLine → List ℤ
leads sets paths = map (λ z. z.dual) sets ++ map (λ r. r.vertex) paths

-- the items of a set: vertices, and if negative the sets that are referred to
abbrev pub set_list : SetLine → List ℤ
set_list z = map item_number z.items

-- the items of each set, and the edges of each path
abbrev pub lists : List SetLine → List PathLine → List (List ℤ)
lists sets paths = map set_list sets ++ map (λ r. r.edges) paths

-- the items of lists, list by list
abbrev pub all_items : List (List ℤ) → List ℤ
all_items xss = flat_map (λ xs. xs) xss

-- how many items the lists before a place have
abbrev pub offset_at : List (List ℤ) → ℕ → ℤ
offset_at xss k = pos (length (all_items (take k xss)))

-- where the items of each list begin, and where those of the last end
abbrev pub offsets : List (List ℤ) → List ℤ
offsets xss = tabled (offset_at xss) (length xss + 1)

-- ---- the whole

-- the numbers that say what follows: the status, the weight, where the walk starts, and the lengths
-- of the parts
abbrev pub head : DocStatus → ℤ → ℤ → ℤ → ℤ → ℤ → ℤ → ℤ → List ℤ
head status weight start answer duals leads all members =
    status_number status ∷ weight ∷ start ∷ answer ∷ duals ∷ leads ∷ all ∷ members ∷ []

-- duals of vertices, what each list begins with, where its items begin, these items, and the
-- members of the set of vertices
abbrev pub certificate : List DualLine → List SetLine → List PathLine → List ℤ → List ℤ
certificate duals sets paths members = map (λ y. y.dual) duals
    ++ (leads sets paths ++ (offsets (lists sets paths) ++ (all_items (lists sets paths)
    ++ members)))

-- a document with this answer and this certificate
abbrev pub numbers_by : Document → List ℤ → List DualLine → List SetLine → List PathLine → List ℤ
    → List ℤ
numbers_by d answer duals sets paths members =
    head d.status d.weight (start_number d.walk) (pos (length answer)) (pos (length duals))
    (pos (length (leads sets paths))) (pos (length (all_items (lists sets paths))))
    (pos (length members))
    ++ (answer ++ certificate duals sets paths members)

-- nothing in brief
abbrev pub unless : {A : Type 0} → Bool → List A → List A
unless true xs = []
unless false xs = xs

-- the numbers of a document, in brief without what proves the answer, for an answer of this form on
-- m edges
abbrev pub numbers_for : Detail → AnswerForm → ℕ → Document → List ℤ
numbers_for detail f m d = numbers_by d (answer_numbers f m d) (unless (is_brief detail) d.duals)
    (unless (is_brief detail) d.sets) (unless (is_brief detail) d.paths)
    (unless (is_brief detail) (excluding d))
