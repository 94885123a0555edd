-- What a document claims: an answer, duals on vertices and on odd sets, or a set of vertices.
use Rattle.std.specs.Prelude.{◌≡◌, ℕ, ◌<◌, ℤ, pos, nat_abs, List, [], ◌∷◌, length, map}
use Rattle.std.specs.Prelude.{slice_index_or, if◌then◌else◌, Option, None, Some}
use Rattle.std.specs.Ordering.{int_eq}
use Rattle.std.specs.List.{range_with_len}
use Rattle.graph_theory.specs.declared.odd_set.OddSet.{OddSet}
use Rattle.mb_problem.specs.declared.kind.Kind.{Kind}
use Rattle.mb_problem.specs.declared.kind.AnswerForm.{AnswerForm}
use Rattle.mb_problem.specs.declared.kind.AnswerForm.TheVariants as form
use Rattle.mb_problem.specs.Kinds.{form_of}
use Rattle.mb_problem.specs.declared.answer.Answer.{Answer}
use Rattle.mb_problem.specs.declared.answer.Answer.TheVariants.{Counts, Walk, Nothing}
use Rattle.mb_problem.specs.Network.{Network}
use Rattle.doc_format.specs.declared.document.Document.{Document}
use Rattle.doc_format.specs.declared.part.CountLine.{CountLine}
use Rattle.doc_format.specs.declared.part.MemberLine.{MemberLine}
use Rattle.doc_format.specs.declared.part.SetItem.{SetItem}
use Rattle.doc_format.specs.declared.part.SetItem.TheVariants.{Vertex, Reference}
use Rattle.doc_format.specs.declared.part.SetLine.{SetLine}
use Rattle.doc_format.specs.declared.part.WalkLine.{WalkLine}

-- the numbers of a line as numbers of vertices or edges
abbrev pub numbers : List ℤ → List ℕ
numbers zs = map nat_abs zs

-- the count of the x line of edge e, and 0 if there is none
abbrev pub count_of : List CountLine → ℕ → ℕ
count_of [] e = 0
count_of (x ∷ xs) e = if int_eq x.edge (pos e) then nat_abs x.count else count_of xs e

-- a count for each of m edges
abbrev pub counts_of : List CountLine → ℕ → List ℕ
counts_of xs m = map (count_of xs) (range_with_len 1 m)

abbrev pub walk_of : Option WalkLine → Answer
walk_of None = Nothing
walk_of (Some w) = Walk (nat_abs w.start) (numbers w.edges)

-- counts from the x lines, or the walk of the w line
abbrev pub answer_by : AnswerForm → Network → Document → Answer
answer_by form.Counts i d = Counts (counts_of d.counts (length i.edges))
answer_by form.Walk i d = walk_of d.walk

-- the answer that a document of a kind states
abbrev pub answer_of : Kind → Network → Document → Answer
answer_of kind i d = answer_by (form_of kind) i d

-- the duals of the vertices, in the order of the y lines
abbrev pub duals_of : Document → List ℤ
duals_of d = map (λ y. y.dual) d.duals

-- vertex v has a y line
abbrev pub HasDual : Document → ℕ → Type 0
HasDual d v = (k : ℕ) × (k < length d.duals)
    × (slice_index_or (map (λ y. y.vertex) d.duals) k (pos 0) ≡ pos v)

-- the vertices that a z line names, and the lines that it refers to
abbrev pub vertices_in : List SetItem → List ℕ
vertices_in [] = []
vertices_in (Vertex v ∷ items) = nat_abs v ∷ vertices_in items
vertices_in (Reference j ∷ items) = vertices_in items

abbrev pub references_in : List SetItem → List ℕ
references_in [] = []
references_in (Vertex v ∷ items) = references_in items
references_in (Reference j ∷ items) = nat_abs j ∷ references_in items

-- the members of a line, and none if it is missing
abbrev pub members_of : Option MemberLine → List ℕ
members_of None = []
members_of (Some u) = numbers u.members

-- the counts that the x lines give the edges of an instance
abbrev pub stated_counts : Network → Document → List ℕ
stated_counts i d = counts_of d.counts (length i.edges)

-- the vertices that have an r line
abbrev pub path_starts : Document → List ℕ
path_starts d = map (λ r. nat_abs r.vertex) d.paths

-- the odd sets with their duals, in the order of the z lines, each by vertices and earlier sets
abbrev pub set_of : SetLine → OddSet
set_of z =
    record { dual = z.dual; vertices = vertices_in z.items; references = references_in z.items }

abbrev pub sets_of : Document → List OddSet
sets_of d = map set_of d.sets
