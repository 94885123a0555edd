-- What solving arrays answers.
use Rattle.std.specs.Prelude.{◌≡◌, ℕ, ◌+◌, ◌-◌, ◌*◌, ◌^◌, ◌≤◌, min, ℤ, pos, List, [], ◌∷◌, ◌++◌}
use Rattle.std.specs.Prelude.{length, Bool, true, false, Some, Result, Ok, Err}
use Rattle.graph_theory.specs.Limits.{Size, IsWithinLimits}
use Rattle.mb_problem.specs.declared.kind.Kind.{Kind}
use Rattle.mb_problem.specs.Kinds.{form_of, searches_of}
use Rattle.mb_problem.specs.Size.{size_of}
use Rattle.doc_format.specs.declared.document.Document.{Document}
use Rattle.mwpm_engine.specs.Solutions.{most_steps}
use Rattle.solve_answers.specs.declared.detail.Detail.{Detail}
use Rattle.solve_answers.specs.declared.detail.Detail.TheVariants.{Full}
use Rattle.solve_answers.specs.Settled.{Settles, SettlesFor}
use Rattle.array_call.specs.declared.error.ArrayError.{ArrayError}
use Rattle.array_call.specs.declared.error.ArrayError.TheVariants.{Malformed, TooLarge, OutOfMemory}
use Rattle.array_call.specs.declared.rule.ArrayFault.{ArrayFault}
use Rattle.array_call.specs.declared.calling.ArrayAnswer.{ArrayAnswer}
use Rattle.array_call.specs.declared.calling.ArrayStatus.{ArrayStatus}
use Rattle.array_call.specs.declared.calling.ArrayStatus.TheVariants as status
use Rattle.array_call.specs.Rules.{number_of_rule}
use Rattle.array_call.specs.Arrays.{Arrays, edge_count, network_of}
use Rattle.array_call.specs.Faults.{array_fault}
use Rattle.array_call.specs.Made.{IsFaultless}
use Rattle.array_call.specs.Layout.{numbers_for}

-- the size of the certificate graph of arrays
abbrev pub graph_size : Kind → Arrays → Size
graph_size kind a = size_of kind (network_of kind a)

-- the arrays are an instance of the kind, whose certificate graph is within the limits
pub record IsAnswerable (kind : Kind) (a : Arrays) : Type 0 where
  pub faultless : IsFaultless kind a
  pub limits : IsWithinLimits (graph_size kind a)

-- the arrays are an instance of the kind, whose certificate graph has this size, past a limit
pub record IsTooLarge (kind : Kind) (a : Arrays) (size : Size) : Type 0 where
  pub faultless : IsFaultless kind a
  pub past : ¬ IsWithinLimits (graph_size kind a)
  pub size_is : size ≡ graph_size kind a

-- The document of a best answer, or of what excludes all answers, that proves what it states of the
-- instance that the arrays are, in brief one with its answer; or why there is none: their first
-- fault, or a graph past a limit.
abbrev pub SolvesFor : Detail → Kind → Arrays → Result Document ArrayError → Type 0
SolvesFor detail kind a (Ok d) = IsAnswerable kind a × SettlesFor detail kind (network_of kind a) d
SolvesFor detail kind a (Err (Malformed f)) = array_fault kind a ≡ Some f
SolvesFor detail kind a (Err (TooLarge vertices edges)) =
    IsTooLarge kind a (record { vertices = vertices; edges = edges })
SolvesFor detail kind a (Err OutOfMemory) = Unit {0}

-- the same in full: the document settles the instance itself
abbrev pub Solves : Kind → Arrays → Result Document ArrayError → Type 0
Solves kind a result = SolvesFor Full kind a result

-- no more than the searches on the certificate graph take
abbrev pub CountsSearches : Kind → Arrays → ℕ → ℕ → Type 0
CountsSearches kind a before after =
    after ≤ before + searches_of kind * most_steps (graph_size kind a)

-- nothing is counted where arrays are refused
abbrev pub Counts : Kind → Arrays → ℕ → ℕ → Result Document ArrayError → Type 0
Counts kind a before after (Ok d) = CountsSearches kind a before after
Counts kind a before after (Err (Malformed f)) = after ≡ before
Counts kind a before after (Err (TooLarge vertices edges)) = after ≡ before
Counts kind a before after (Err OutOfMemory) = CountsSearches kind a before after

-- ---- in numbers

abbrev pub fault_numbers : ArrayFault → List ℤ
fault_numbers f = pos (number_of_rule f.rule) ∷ pos f.place ∷ []

-- a count as a number of 64 bits, the greatest of them where it would be past that
abbrev pub counted : ℕ → ℤ
counted n = pos (min n (2 ^ 63 - 1))

abbrev pub size_numbers : Size → List ℤ
size_numbers size = counted size.vertices ∷ counted size.edges ∷ []

-- The numbers and the status: those of the document, the first fault, or the size that is past a
-- limit; none if there isn't enough memory.
abbrev pub Gives : Detail → Kind → Arrays → List ℤ → ArrayStatus → Type 0
Gives detail kind a numbers status.Done =
    (d : Document) × IsAnswerable kind a × Settles kind (network_of kind a) d
    × (numbers ≡ numbers_for detail (form_of kind) (edge_count a) d)
Gives detail kind a numbers status.Rejected = ⊥
Gives detail kind a numbers status.Malformed =
    (f : ArrayFault) × (array_fault kind a ≡ Some f) × (numbers ≡ fault_numbers f)
Gives detail kind a numbers status.TooLarge =
    (size : Size) × IsTooLarge kind a size × (numbers ≡ size_numbers size)
Gives detail kind a numbers status.OutOfMemory = numbers ≡ []

-- no duals, no sets and no members stand behind the answer, but for the one offset of no set
pub record HasNoCertificate (numbers : List ℤ) : Type 0 where
  pub status : ℤ
  pub weight : ℤ
  pub start : ℤ
  pub answer : List ℤ
  pub whole : numbers ≡ status ∷ weight ∷ start ∷ pos (length answer) ∷ pos 0 ∷ pos 0 ∷ pos 0
      ∷ pos 0 ∷ (answer ++ pos 0 ∷ [])

-- the numbers of an answer in brief have no certificate
abbrev pub IsBriefFor : Bool → List ℤ → ArrayStatus → Type 0
IsBriefFor false numbers status = Unit {0}
IsBriefFor true numbers status.Done = HasNoCertificate numbers
IsBriefFor true numbers status.Rejected = Unit {0}
IsBriefFor true numbers status.Malformed = Unit {0}
IsBriefFor true numbers status.TooLarge = Unit {0}
IsBriefFor true numbers status.OutOfMemory = Unit {0}

-- how many numbers an answer without its certificate has at most, on so many edges
abbrev pub size_without_proof : ℕ → ℕ
size_without_proof edges = 9 + 2 * edges

-- the same of the size alone, which may be past a limit
abbrev pub GivesSize : Kind → Arrays → List ℤ → ArrayStatus → Type 0
GivesSize kind a numbers status.Done =
    IsFaultless kind a × (numbers ≡ size_numbers (graph_size kind a))
GivesSize kind a numbers status.Rejected = ⊥
GivesSize kind a numbers status.Malformed =
    (f : ArrayFault) × (array_fault kind a ≡ Some f) × (numbers ≡ fault_numbers f)
GivesSize kind a numbers status.TooLarge = ⊥
GivesSize kind a numbers status.OutOfMemory = numbers ≡ []

-- as `Counts`, by the status
abbrev pub CountsCall : Kind → Arrays → ℕ → ℕ → ArrayStatus → Type 0
CountsCall kind a before after status.Done = CountsSearches kind a before after
CountsCall kind a before after status.Rejected = after ≡ before
CountsCall kind a before after status.Malformed = after ≡ before
CountsCall kind a before after status.TooLarge = after ≡ before
CountsCall kind a before after status.OutOfMemory = CountsSearches kind a before after

-- the same, if running out of memory is an error
abbrev pub CountsEnded : {E : Type 0} → Kind → Arrays → ℕ → ℕ → Result ArrayAnswer E → Type 0
CountsEnded kind a before after (Ok answer) = CountsCall kind a before after answer.status
CountsEnded kind a before after (Err e) = CountsSearches kind a before after
