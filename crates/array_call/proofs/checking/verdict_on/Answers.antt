use Rattle.certificates.proofs.Common.{subst, inr, Network, IsProved, StatesTruth}
use Rattle.cert_check.specs.declared.rule.Verdict.{Verdict}
use Rattle.cert_check.specs.declared.rule.Verdict.TheVariants.{Rejected}
use Rattle.cert_check.specs.Verdicts.{IsVerdict}
use Rattle.array_call.proofs.checking.verdict_on.Goals as goal

pub returns-in-Accepted : goal.returns-in-Accepted
returns-in-Accepted c =
    let kind = c.args.kind in
    let d = c.args.document.now in
    record {
      document = d;
      own = c.requires.own;
      proved = subst (λ (i : Network). IsProved kind i d) c.requires.same (c.in_ok-verdict.ensures.accepted.0 c.in-Accepted.is);
      truth = subst (λ (i : Network). StatesTruth kind i d) c.requires.same (c.in_ok-verdict.ensures.sound c.in-Accepted.is);
    }

pub returns-in-Rejected : goal.returns-in-Rejected
returns-in-Rejected c =
    let kind = c.args.kind in
    let d = c.args.document.now in
    inr (record {
      document = d;
      own = c.requires.own;
      same_kind = c.requires.kind;
      line = c.in-Rejected.line;
      broken = subst (λ (i : Network). IsVerdict kind i d (Rejected c.in-Rejected.rule c.in-Rejected.line)) c.requires.same
          (subst (λ (v : Verdict). IsVerdict kind c.args.instance.now d v) c.in-Rejected.is c.in_ok-verdict.ensures.verdict);
    })
