-- Which status a document has, and if it is known without a search.
use Rattle.std.specs.Prelude.{◌≡◌, Bool, true, false, not, ◌&&◌}
use Rattle.graph_theory.specs.Walk.{IsConservative}
use Rattle.mb_problem.specs.declared.kind.Kind.{Kind}
use Rattle.mb_problem.specs.declared.kind.Obstruction.{Obstruction}
use Rattle.mb_problem.specs.declared.kind.Obstruction.TheVariants.{Barrier, OddPart, SplitPart}
use Rattle.mb_problem.specs.declared.kind.Obstruction.TheVariants.{Never}
use Rattle.mb_problem.specs.declared.answer.Answer.{Answer}
use Rattle.mb_problem.specs.Kinds.{obstruction_of, asks_conservative}
use Rattle.mb_problem.specs.Network.{Network, graph_of}
use Rattle.mb_problem.specs.Feasible.{IsFeasible}
use Rattle.doc_format.specs.declared.status.DocStatus.{DocStatus}
use Rattle.doc_format.specs.declared.status.DocStatus.TheVariants.{Optimal, Infeasible}
use Rattle.doc_format.specs.declared.status.DocStatus.TheVariants.{NonConservative}
use Rattle.certificates.specs.Excluded.{HasNoAnswer}

-- some answer is feasible
abbrev pub HasAnswer : Kind → Network → Type 0
HasAnswer kind i = (answer : Answer) × IsFeasible kind i answer

-- no circuit weighs less than 0, if the kind asks for that
abbrev pub HasFitWeights : Kind → Network → Type 0
HasFitWeights kind i = asks_conservative kind ≡ true → IsConservative (graph_of i)

-- optimal if some answer is feasible, infeasible if none is; neither where a kind asks for
-- conservative weights and they aren't
abbrev pub HasTrueStatus : Kind → Network → DocStatus → Type 0
HasTrueStatus kind i Optimal = HasAnswer kind i × HasFitWeights kind i
HasTrueStatus kind i Infeasible = HasNoAnswer kind i × HasFitWeights kind i
HasTrueStatus kind i NonConservative = (asks_conservative kind ≡ true)
    × (IsConservative (graph_of i) → ⊥)

-- a part that no edge leaves excludes answers: that is seen without a search
abbrev pub is_part : Obstruction → Bool
is_part Barrier = false
is_part OddPart = true
is_part SplitPart = true
is_part Never = false

-- no search is made where no answer is feasible
abbrev pub is_tested_first : Kind → Bool
is_tested_first kind = is_part (obstruction_of kind) && not (asks_conservative kind)
