use Rattle.certificates.proofs.Common.{sym, subst, DocStatus, HasWantedPart, IsExcludedByBarrier, StatesTruthBy, excluded}
use Rattle.cert_check.proofs.infeasible.judge_infeasible.Goals as goal

pub returns-clause-sound : goal.returns-clause-sound
returns-clause-sound c =
    let i = c.args.instance.now in
    let d = c.args.document.now in
    let barrier : IsExcludedByBarrier c.args.kind i = c.in_ok-has_wanted_barrier.ensures.none c.if-not-branch.false in
    let part : HasWantedPart c.args.kind i d = c.in_ok-has_wanted_part.ensures.exact.0 c.if-not-branch-2.false in
    λ _. subst (λ (s : DocStatus). StatesTruthBy s c.args.kind i d) (sym c.requires.status) (excluded c.args.kind i d c.in_ok-has_wanted_part.ensures.network barrier part)
