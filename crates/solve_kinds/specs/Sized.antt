-- What solving an instance of any size answers.
use Rattle.std.specs.Prelude.{◌≡◌, ℕ, ◌+◌, ◌*◌, ◌≤◌, Result, Ok, Err}
use Rattle.graph_theory.specs.Limits.{IsWithinLimits}
use Rattle.mb_problem.specs.declared.kind.Kind.{Kind}
use Rattle.mb_problem.specs.Kinds.{searches_of}
use Rattle.mb_problem.specs.Network.{Network}
use Rattle.mb_problem.specs.Size.{size_of}
use Rattle.doc_format.specs.declared.document.Document.{Document}
use Rattle.mwpm_engine.specs.Solutions.{most_steps}
use Rattle.solve_answers.specs.declared.detail.Detail.{Detail}
use Rattle.solve_answers.specs.Settled.{IsWrittenFor, SettlesFor}
use Rattle.solve_kinds.specs.declared.sized.SolveError.{SolveError}
use Rattle.solve_kinds.specs.declared.sized.SolveError.TheVariants.{TooLarge, OutOfMemory}

-- the document to be written, in full or in brief, of an instance within the limits; in full it
-- settles the instance itself
pub record SolvesWithin (detail : Detail) (kind : Kind) (i : Network) (d : Document) : Type 0 where
  pub limits : IsWithinLimits (size_of kind i)
  pub written : IsWrittenFor kind i detail d
  pub settled : SettlesFor detail kind i d

-- such a document, or the size of the certificate graph, which is past a limit; memory runs out
-- only within the limits
abbrev pub SolvesSized : Detail → Kind → Network → Result Document SolveError → Type 0
SolvesSized detail kind i (Ok d) = SolvesWithin detail kind i d
SolvesSized detail kind i (Err (TooLarge vertices edges)) = ¬ IsWithinLimits (size_of kind i)
    × (record { vertices = vertices; edges = edges } ≡ size_of kind i)
SolvesSized detail kind i (Err OutOfMemory) = IsWithinLimits (size_of kind i)

-- no more than the searches on the certificate graph take
abbrev pub CountsWithin : Kind → Network → ℕ → ℕ → Type 0
CountsWithin kind i before after =
    after ≤ before + searches_of kind * most_steps (size_of kind i)

-- nothing is counted past a limit
abbrev pub CountsSized : Kind → Network → ℕ → ℕ → Result Document SolveError → Type 0
CountsSized kind i before after (Ok d) = CountsWithin kind i before after
CountsSized kind i before after (Err (TooLarge vertices edges)) = after ≡ before
CountsSized kind i before after (Err OutOfMemory) = CountsWithin kind i before after
