-- What is promised of a document, and what is known if there is none yet.
use Rattle.std.specs.Prelude.{◌≡◌, ℕ, ◌*◌, ◌≤◌, ◌^◌, length, true, false, [], Option, None}
use Rattle.std.specs.Prelude.{Some}
use Rattle.std.specs.Prelude.{IfSome}
use Rattle.mb_problem.specs.declared.kind.Kind.{Kind}
use Rattle.mb_problem.specs.Joins.{HasNoNegativeEvenSet}
use Rattle.mb_problem.specs.declared.kind.BestProof.{BestProof}
use Rattle.mb_problem.specs.declared.kind.BestProof.TheVariants.{Duals, LighterBarrier, OuterPaths}
use Rattle.mb_problem.specs.Kinds.{obstruction_of, asks_conservative, proof_of}
use Rattle.mb_problem.specs.Network.{Network}
use Rattle.doc_format.specs.declared.document.Document.{Document}
use Rattle.doc_format.specs.Spelling.{document_text}
use Rattle.certificates.specs.Proved.{IsProved, StatesTruth}
use Rattle.solve_answers.specs.declared.detail.Detail.{Detail}
use Rattle.solve_answers.specs.declared.detail.Detail.TheVariants.{Full}
use Rattle.solve_answers.specs.Details.{is_brief}
use Rattle.solve_answers.specs.Solved.{HasTrueStatus, HasFitWeights}
use Rattle.solve_answers.specs.Chosen.{IsChosen}
use Rattle.solve_answers.specs.Open.{HasNoPartFor}

-- how many bytes the text of a document has at most, by what proves a best answer
abbrev pub byte_limit_by : BestProof → ℕ
byte_limit_by (Duals value) = 2 ^ 23
byte_limit_by LighterBarrier = 2 ^ 23
byte_limit_by OuterPaths = 2 ^ 27

abbrev pub byte_limit_of : Kind → ℕ
byte_limit_of kind = byte_limit_by (proof_of kind)

-- the walk of a document, if it has one, has at most twice as many edges as the instance
abbrev pub HasShortWalk : Network → Document → Type 0
HasShortWalk i d = IfSome d.walk (λ w. length w.edges ≤ 2 * length i.edges)

-- the document proves what it states, which is true
pub record Settles (kind : Kind) (i : Network) (d : Document) : Type 0 where
  pub proved : IsProved kind i d
  pub truth : StatesTruth kind i d
  pub exact : HasTrueStatus kind i d.status
  pub chosen : IsChosen kind i d
  pub short_walk : HasShortWalk i d
  pub size_limit : length (document_text d false) ≤ byte_limit_of kind

-- no duals and no sets
pub record IsBare (d : Document) : Type 0 where
  pub duals : d.duals ≡ []
  pub sets : d.sets ≡ []

-- A document that has the same answer as one that settles the instance, and the same text as it is
-- written: in brief nothing of the duals and sets is, and they aren't there.
pub record IsWrittenFor (kind : Kind) (i : Network) (detail : Detail) (d : Document) : Type 0 where
  pub whole : Document
  pub settles : Settles kind i whole
  pub status : d.status ≡ whole.status
  pub weight : d.weight ≡ whole.weight
  pub counts : d.counts ≡ whole.counts
  pub walk : d.walk ≡ whole.walk
  pub text : document_text d (is_brief detail) ≡ document_text whole (is_brief detail)
  pub bare : is_brief detail ≡ true → IsBare d

-- in full the document settles the instance itself
abbrev pub SettlesFor : Detail → Kind → Network → Document → Type 0
SettlesFor Full kind i d = Settles kind i d
SettlesFor detail kind i d = IsWrittenFor kind i detail d

-- a document that settles an instance without duals and sets
abbrev pub SettlesBare : Kind → Network → Document → Type 0
SettlesBare kind i d = Settles kind i d × IsBare d

-- such a document, or no part excludes all answers
abbrev pub SettlesOrHasNoPart : Kind → Network → Option Document → Type 0
SettlesOrHasNoPart kind i (Some d) = SettlesBare kind i d
SettlesOrHasNoPart kind i None = HasNoPartFor (obstruction_of kind) i

-- such a document, or, if the kind asks for that, no circuit weighs less than 0, nor any even set
-- of edges
abbrev pub SettlesOrIsFit : Kind → Network → Option Document → Type 0
SettlesOrIsFit kind i (Some d) = SettlesBare kind i d
SettlesOrIsFit kind i None = HasFitWeights kind i
    × (asks_conservative kind ≡ true → HasNoNegativeEvenSet i)
