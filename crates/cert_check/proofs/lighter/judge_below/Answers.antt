use Rattle.certificates.proofs.Common.{◌≡◌, refl, sym, ap, ◌∙◌, subst, arith, false≢true, Kind, LighterBarrier, proof_of, are_duals, Network, Document, DocStatus}
use Rattle.certificates.proofs.Common.{HasFeasibleAnswer, HasStatedWeight, HasLighterBarrier, HasBarrierByStatus, StatesTruthBy, best-by_barrier}
use Rattle.cert_check.specs.declared.rule.DocRule.TheVariants.{NotFeasible, WeightDiffers, DualMissing, NotBarrier}
use Rattle.cert_check.specs.Verdicts.{KeepsBefore}
use Rattle.cert_check.proofs.RuleLemmas.{past-duals, past-paths, optimal-all}
use Rattle.cert_check.proofs.lighter.judge_below.Goals as goal

-- nothing is asked of duals and paths, so all rules before the barrier's are kept
to_barrier : (kind : Kind) (i : Network) (d : Document) → proof_of kind ≡ LighterBarrier → KeepsBefore kind i d DualMissing → KeepsBefore kind i d NotBarrier
to_barrier kind i d is before = past-paths kind i d (past-duals kind i d (ap are_duals is) before) (rw is tt) (rw is tt)

pub returns-then-not-branch-clause-verdict : goal.returns-then-not-branch-clause-verdict
returns-then-not-branch-clause-verdict c =
    let i = c.args.instance.now in
    let d = c.args.document.now in
    let lacks : HasBarrierByStatus d.status c.args.kind i d → ⊥ = λ have.
    (let barrier : HasLighterBarrier c.args.kind i d = rw c.requires.proof at (subst (λ (s : DocStatus). HasBarrierByStatus s c.args.kind i d) c.requires.status have) in
    false≢true (sym c.if-not-branch.true ∙ c.in_ok-has_lighter_barrier.ensures.exact.1 barrier)) in
    ((lacks, refl), to_barrier c.args.kind i d c.requires.proof c.requires.before)

pub returns-clause-verdict : goal.returns-clause-verdict
returns-clause-verdict c =
    let i = c.args.instance.now in
    let d = c.args.document.now in
    let barrier : HasLighterBarrier c.args.kind i d = c.in_ok-has_lighter_barrier.ensures.exact.0 c.if-not-branch.false in
    optimal-all c.args.kind i d c.requires.status (to_barrier c.args.kind i d c.requires.proof c.requires.before) (rw c.requires.proof barrier)

pub returns-clause-sound : goal.returns-clause-sound
returns-clause-sound c =
    let i = c.args.instance.now in
    let d = c.args.document.now in
    let feasible : HasFeasibleAnswer c.args.kind i d = c.requires.before NotFeasible (omega arith) c.requires.status in
    let weighs : HasStatedWeight c.args.kind i d = c.requires.before WeightDiffers (omega arith) c.requires.status in
    let barrier : HasLighterBarrier c.args.kind i d = c.in_ok-has_lighter_barrier.ensures.exact.0 c.if-not-branch.false in
    λ _. subst (λ (s : DocStatus). StatesTruthBy s c.args.kind i d) (sym c.requires.status)
    (best-by_barrier c.args.kind i d c.requires.proof c.in_ok-has_lighter_barrier.ensures.network feasible weighs barrier)
