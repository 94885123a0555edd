-- The best of the answers that were tried so far.
use Rattle.std.specs.Prelude.{ℕ, ◌<◌, List, Option, None, Some}
use Rattle.mb_problem.specs.declared.kind.Kind.{Kind}
use Rattle.mb_problem.specs.declared.answer.Answer.{Answer}
use Rattle.mb_problem.specs.declared.answer.Answer.TheVariants.{Counts}
use Rattle.mb_problem.specs.Network.{Network}
use Rattle.mb_problem.specs.Feasible.{IsFeasible, IsAsGood, weight_of}
use Rattle.brute_force.specs.Digits.{digits}

-- the answer whose counts are the digits of a code, if these go up to `mosts`
abbrev pub answer_of : List ℕ → ℕ → Answer
answer_of mosts code = Counts (digits mosts code)

-- feasible, and as good as every feasible answer of a code below this one
pub record IsBestOf (kind : Kind) (i : Network) (mosts : List ℕ) (codes : ℕ)
    (answer : Answer) : Type 0 where
  pub feasible : IsFeasible kind i answer
  pub best : (code : ℕ) → code < codes → IsFeasible kind i (answer_of mosts code)
      → IsAsGood kind (weight_of kind i answer) (weight_of kind i (answer_of mosts code))

-- the best answer of the codes below this one, or nothing if none of these is feasible
abbrev pub IsBestBelow : Kind → Network → List ℕ → ℕ → Option Answer → Type 0
IsBestBelow kind i mosts codes (Some answer) = IsBestOf kind i mosts codes answer
IsBestBelow kind i mosts codes None = (code : ℕ) → code < codes
    → IsFeasible kind i (answer_of mosts code) → ⊥
