-- The rules that a document can break, in order, and the verdict that they call for.
use Rattle.std.specs.Prelude.{◌≡◌, ◌≢◌, ℕ, ◌<◌, length, map, None, Some, ⊤, slice_index_or}
use Rattle.graph_theory.specs.Duals.{AreDuals}
use Rattle.mb_problem.specs.declared.kind.Kind.{Kind}
use Rattle.mb_problem.specs.declared.kind.BestProof.{BestProof}
use Rattle.mb_problem.specs.declared.kind.BestProof.TheVariants.{Duals, LighterBarrier, OuterPaths}
use Rattle.mb_problem.specs.Kinds.{proof_of}
use Rattle.mb_problem.specs.Network.{Network}
use Rattle.gadget_base.specs.Certified.{gadget_graph}
use Rattle.doc_format.specs.declared.part.PathLine.{PathLine}
use Rattle.doc_format.specs.declared.document.Document.{Document}
use Rattle.doc_format.specs.declared.status.DocStatus.TheVariants.{Optimal, Infeasible}
use Rattle.doc_format.specs.declared.status.DocStatus.TheVariants.{NonConservative}
use Rattle.cert_check.specs.declared.rule.DocRule.{DocRule}
use Rattle.cert_check.specs.declared.rule.DocRule.TheVariants.{DocForm, KindDiffers, DocRange}
use Rattle.cert_check.specs.declared.rule.DocRule.TheVariants.{NotFeasible, WeightDiffers}
use Rattle.cert_check.specs.declared.rule.DocRule.TheVariants.{DualMissing}
use Rattle.cert_check.specs.declared.rule.DocRule.TheVariants.{SetForm, Slack, ValueDiffers}
use Rattle.cert_check.specs.declared.rule.DocRule.TheVariants.{NotBarrier, NotClosed, NotCircuit}
use Rattle.cert_check.specs.declared.rule.DocRule.TheVariants.{PathForm, PathMissing}
use Rattle.cert_check.specs.declared.rule.Verdict.{Verdict}
use Rattle.cert_check.specs.declared.rule.Verdict.TheVariants.{Accepted, Rejected}
use Rattle.certificates.specs.Claims.{duals_of}
use Rattle.certificates.specs.Ranges.{first_out_of_range}
use Rattle.certificates.specs.Certificates.{HasFeasibleAnswer, HasStatedWeight, HasWantedDuals}
use Rattle.certificates.specs.Certificates.{HasLineForm, HaveForm, listed, HaveWantedSlack}
use Rattle.certificates.specs.Certificates.{HasWantedValue}
use Rattle.certificates.specs.Certificates.{IsStatedPath, HaveWantedPaths, HasAllWantedPaths}
use Rattle.certificates.specs.Certificates.{HasBarrierByStatus, HasWantedPart, HasNegativeCircuit}

-- The document keeps the rule. Its form is the reader's matter, since what isn't one isn't a
-- document.
abbrev pub Keeps : Kind → Network → Document → DocRule → Type 0
Keeps kind i d DocForm = ⊤
Keeps kind i d KindDiffers = d.kind ≡ kind
Keeps kind i d DocRange = first_out_of_range kind i d ≡ None
Keeps kind i d NotFeasible = d.status ≡ Optimal → HasFeasibleAnswer kind i d
Keeps kind i d WeightDiffers = d.status ≡ Optimal → HasStatedWeight kind i d
Keeps kind i d DualMissing = d.status ≡ Optimal → HasWantedDuals kind i d
Keeps kind i d SetForm = HaveForm d
Keeps kind i d Slack = d.status ≡ Optimal → HaveWantedSlack kind i d
Keeps kind i d ValueDiffers = d.status ≡ Optimal → HasWantedValue kind i d
Keeps kind i d PathForm = d.status ≡ Optimal → HaveWantedPaths kind i d
Keeps kind i d PathMissing = d.status ≡ Optimal → HasAllWantedPaths kind d
Keeps kind i d NotBarrier = HasBarrierByStatus d.status kind i d
Keeps kind i d NotClosed = d.status ≡ Infeasible → HasWantedPart kind i d
Keeps kind i d NotCircuit = d.status ≡ NonConservative → HasNegativeCircuit i d

-- the z line at a place lacks form, and none before it does
pub record IsFirstFormless (d : Document) (line : ℕ) : Type 0 where
  pub at : ℕ
  pub in_range : at < length d.sets
  pub lacks : ¬ HasLineForm d at
  pub line_is : line ≡ slice_index_or (map (λ z. z.line) d.sets) at 0
  pub before : (j : ℕ) → j < at → HasLineForm d j

-- the r line at a place isn't as it has to be, and each before it is
pub record IsFirstPathless (i : Network) (d : Document) (line : ℕ) : Type 0 where
  pub at : ℕ
  pub in_range : at < length d.paths
  pub lacks : (r : PathLine) → r ≡ slice_index_or d.paths at r → ¬ IsStatedPath i d r
  pub line_is : line ≡ slice_index_or (map (λ r. r.line) d.paths) at 0
  pub before : (j : ℕ) (r : PathLine) → j < at → r ≡ slice_index_or d.paths j r
      → IsStatedPath i d r

-- The document breaks the rule, at this line: the s line where no other is at fault.
abbrev pub Breaks : Kind → Network → Document → DocRule → ℕ → Type 0
Breaks kind i d DocForm line = ⊥
Breaks kind i d KindDiffers line = (d.kind ≢ kind) × (line ≡ d.line)
Breaks kind i d DocRange line = first_out_of_range kind i d ≡ Some line
Breaks kind i d NotFeasible line =
    (d.status ≡ Optimal) × (¬ HasFeasibleAnswer kind i d) × (line ≡ d.line)
Breaks kind i d WeightDiffers line =
    (d.status ≡ Optimal) × (¬ HasStatedWeight kind i d) × (line ≡ d.line)
Breaks kind i d DualMissing line =
    (d.status ≡ Optimal) × (¬ HasWantedDuals kind i d) × (line ≡ d.line)
Breaks kind i d SetForm line = IsFirstFormless d line
Breaks kind i d Slack line = (d.status ≡ Optimal) × (¬ HaveWantedSlack kind i d) × (line ≡ d.line)
Breaks kind i d ValueDiffers line =
    (d.status ≡ Optimal) × (¬ HasWantedValue kind i d) × (line ≡ d.line)
Breaks kind i d PathForm line =
    (d.status ≡ Optimal) × (¬ HaveWantedPaths kind i d) × IsFirstPathless i d line
Breaks kind i d PathMissing line =
    (d.status ≡ Optimal) × (¬ HasAllWantedPaths kind d) × (line ≡ d.line)
Breaks kind i d NotBarrier line = (¬ HasBarrierByStatus d.status kind i d) × (line ≡ d.line)
Breaks kind i d NotClosed line =
    (d.status ≡ Infeasible) × (¬ HasWantedPart kind i d) × (line ≡ d.line)
Breaks kind i d NotCircuit line =
    (d.status ≡ NonConservative) × (¬ HasNegativeCircuit i d) × (line ≡ d.line)

-- the place of a rule in the order in which rules are tried, which isn't that of their numbers
abbrev pub rank : DocRule → ℕ
rank DocForm = 1
rank KindDiffers = 2
rank DocRange = 3
rank NotFeasible = 4
rank WeightDiffers = 5
rank DualMissing = 6
rank SetForm = 7
rank Slack = 8
rank ValueDiffers = 9
rank PathForm = 10
rank PathMissing = 11
rank NotBarrier = 12
rank NotClosed = 13
rank NotCircuit = 14

-- every rule before this one is kept
abbrev pub KeepsBefore : Kind → Network → Document → DocRule → Type 0
KeepsBefore kind i d rule = (earlier : DocRule) → rank earlier < rank rule → Keeps kind i d earlier

-- accepted if every rule is kept, else refused by the first that is broken, at its line
abbrev pub IsVerdict : Kind → Network → Document → Verdict → Type 0
IsVerdict kind i d Accepted = (rule : DocRule) → Keeps kind i d rule
IsVerdict kind i d (Rejected rule line) = Breaks kind i d rule line × KeepsBefore kind i d rule

-- the duals of a document that states a best answer are feasible, if they are what proves it
abbrev pub AreDualsBy : BestProof → Kind → Network → Document → Type 0
AreDualsBy (Duals value) kind i d = AreDuals (gadget_graph kind i) (duals_of d) (listed kind i d)
AreDualsBy LighterBarrier kind i d = ⊤
AreDualsBy OuterPaths kind i d = ⊤

abbrev pub HasFeasibleDuals : Kind → Network → Document → Type 0
HasFeasibleDuals kind i d = d.status ≡ Optimal → AreDualsBy (proof_of kind) kind i d
