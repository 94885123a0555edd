-- What an instance of a kind has besides the ranges that every instance keeps.
use Rattle.std.specs.Prelude.{ℕ, pos, ◌≤ℤ◌, All, ⊤}
use Rattle.mb_problem.specs.declared.kind.Kind.{Kind}
use Rattle.mb_problem.specs.declared.kind.Precondition.{Precondition}
use Rattle.mb_problem.specs.declared.kind.Precondition.TheVariants.{Unrestricted, WeightsFromZero}
use Rattle.mb_problem.specs.declared.kind.Precondition.TheVariants.{Ends}
use Rattle.mb_problem.specs.declared.kind.Precondition.TheVariants.{EndsAndWeightsFromZero}
use Rattle.mb_problem.specs.declared.instance.InstanceEdge.{InstanceEdge}
use Rattle.mb_problem.specs.Kinds.{need_of}
use Rattle.mb_problem.specs.Network.{Network}
use Rattle.mb_problem.specs.Feasible.{AreEnds}

-- no edge weighs less than 0
abbrev pub HasWeightsFromZero : Network → Type 0
HasWeightsFromZero i = All (λ (e : InstanceEdge). pos 0 ≤ℤ e.w) i.edges

-- two values are odd: those of the ends
abbrev pub HasEnds : Network → Type 0
HasEnds i = (s : ℕ) × (t : ℕ) × AreEnds i s t

-- no edge weighs less than 0, if that is needed
abbrev pub HasWeightsBy : Precondition → Network → Type 0
HasWeightsBy Unrestricted i = ⊤
HasWeightsBy WeightsFromZero i = HasWeightsFromZero i
HasWeightsBy Ends i = ⊤
HasWeightsBy EndsAndWeightsFromZero i = HasWeightsFromZero i

-- two values are odd, if that is needed
abbrev pub HasEndsBy : Precondition → Network → Type 0
HasEndsBy Unrestricted i = ⊤
HasEndsBy WeightsFromZero i = ⊤
HasEndsBy Ends i = HasEnds i
HasEndsBy EndsAndWeightsFromZero i = HasEnds i

abbrev pub HasNeededWeights : Kind → Network → Type 0
HasNeededWeights kind i = HasWeightsBy (need_of kind) i

abbrev pub HasNeededEnds : Kind → Network → Type 0
HasNeededEnds kind i = HasEndsBy (need_of kind) i

-- an instance of the kind
pub record IsReady (kind : Kind) (i : Network) : Type 0 where
  pub weights : HasNeededWeights kind i
  pub ends : HasNeededEnds kind i
