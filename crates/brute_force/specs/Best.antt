-- What a best answer is where there may be none, the kinds whose answers are counts, and how high
-- these go.
use Rattle.std.specs.Prelude.{ℕ, Bool, true, false, List, map, Option, None, Some}
use Rattle.mb_problem.specs.declared.kind.Kind.{Kind}
use Rattle.mb_problem.specs.declared.kind.AnswerForm.{AnswerForm}
use Rattle.mb_problem.specs.declared.kind.AnswerForm.TheVariants as form
use Rattle.mb_problem.specs.declared.kind.EdgeUse.{EdgeUse}
use Rattle.mb_problem.specs.declared.answer.Answer.{Answer}
use Rattle.mb_problem.specs.declared.instance.InstanceEdge.{InstanceEdge}
use Rattle.mb_problem.specs.Kinds.{form_of, edge_use_of}
use Rattle.mb_problem.specs.Network.{Network}
use Rattle.mb_problem.specs.Size.{most_by}
use Rattle.mb_problem.specs.Feasible.{IsFeasible, IsBest}

abbrev pub is_counts : AnswerForm → Bool
is_counts form.Counts = true
is_counts form.Walk = false

-- the answers of the kind are counts on edges
abbrev pub is_counted : Kind → Bool
is_counted kind = is_counts (form_of kind)

-- how often an edge is tried at most: once, or as the values or the greatest degrees at its ends
-- and its capacity let it; the edges that a walk takes once more are a set
abbrev pub most_in : AnswerForm → EdgeUse → Network → InstanceEdge → ℕ
most_in form.Counts often i e = most_by often i e
most_in form.Walk often i e = 1

abbrev pub most_of : Kind → Network → InstanceEdge → ℕ
most_of kind i e = most_in (form_of kind) (edge_use_of kind) i e

-- the same for each edge
abbrev pub mosts : Kind → Network → List ℕ
mosts kind i = map (most_of kind i) i.edges

-- a best answer, or nothing if no answer is feasible
abbrev pub IsBestOrNone : Kind → Network → Option Answer → Type 0
IsBestOrNone kind i (Some answer) = IsBest kind i answer
IsBestOrNone kind i None = (answer : Answer) → IsFeasible kind i answer → ⊥
