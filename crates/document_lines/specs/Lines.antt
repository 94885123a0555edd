-- The lines of computed documents. They were read from no text: each has the line number 1.
use Rattle.std.specs.Prelude.{◌≡◌, ℕ, ◌-◌, ◌≤◌, ◌==◌, pos, Bool, not, List, [], length, map}
use Rattle.std.specs.Prelude.{slice_index, All, Option, None, Some, ⊤}
use Rattle.mb_problem.specs.declared.answer.Answer.{Answer}
use Rattle.mb_problem.specs.declared.answer.Answer.TheVariants.{Counts, Walk, Nothing}
use Rattle.mb_problem.specs.declared.limits.TheConstants.{VALUE_LIMIT}
use Rattle.doc_format.specs.declared.part.CountLine.{CountLine}
use Rattle.doc_format.specs.declared.part.WalkLine.{WalkLine}
use Rattle.doc_format.specs.declared.part.MemberLine.{MemberLine}
use Rattle.certificates.specs.Claims.{counts_of}

-- an edge that is used so often
abbrev pub count_line : ℕ → ℕ → CountLine
count_line e count = record { line = 1; edge = pos e; count = pos count }

-- the edge of a number is used
abbrev pub is_used : List ℕ → ℕ → Bool
is_used counts e = not (slice_index counts (e - 1) == 0)

-- the line of the edge of a number
abbrev pub line_at : List ℕ → ℕ → CountLine
line_at counts e = count_line e (slice_index counts (e - 1))

-- no edge is used more often than a count of a document can say
abbrev pub HasSmallCounts : Answer → Type 0
HasSmallCounts (Counts counts) = All (λ c. c ≤ VALUE_LIMIT) counts
HasSmallCounts (Walk start edges) = ⊤
HasSmallCounts Nothing = ⊤

-- the lines have the counts of the answer; a walk has none
abbrev pub ListsAnswer : Answer → List CountLine → Type 0
ListsAnswer (Counts counts) lines = counts_of lines (length counts) ≡ counts
ListsAnswer (Walk start edges) lines = lines ≡ []
ListsAnswer Nothing lines = lines ≡ []

-- a walk from a vertex
abbrev pub walk_line : ℕ → List ℕ → WalkLine
walk_line start edges = record { line = 1; start = pos start; edges = map pos edges }

-- the line of the walk; counts have none, nor has the empty walk
abbrev pub line_of : Answer → Option WalkLine
line_of (Counts counts) = None
line_of (Walk start edges) = Some (walk_line start edges)
line_of Nothing = None

-- the line of a set of vertices
abbrev pub member_line : List ℕ → MemberLine
member_line set = record { line = 1; members = map pos set }
