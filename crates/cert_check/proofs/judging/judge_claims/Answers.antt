use Rattle.certificates.proofs.Common.{◌≡◌, Optimal, Infeasible, NonConservative, HaveForm, forms-where_none}
use Rattle.cert_check.specs.declared.rule.Verdict.{Verdict}
use Rattle.cert_check.specs.declared.rule.Verdict.TheVariants.{Accepted}
use Rattle.cert_check.specs.Verdicts.{HasFeasibleDuals}
use Rattle.cert_check.proofs.VerdictLemmas.{of_all}
use Rattle.cert_check.proofs.RuleLemmas.{infeasible-before, circuit-before}
use Rattle.cert_check.proofs.judging.judge_claims.Goals as goal

pub judge_infeasible-requires-clause-before : goal.judge_infeasible-requires-clause-before
judge_infeasible-requires-clause-before c =
    let d = c.args.document.now in
    let status : d.status ≡ Infeasible = c.in-Infeasible.is in
    let forms : HaveForm d = forms-where_none d d.form.letters (λ (other : d.status ≡ Optimal). absurd (cc)) in
    infeasible-before c.args.kind c.args.instance.now d c.requires.same c.requires.in_range forms status

pub judge_conservative-requires-clause-before : goal.judge_conservative-requires-clause-before
judge_conservative-requires-clause-before c =
    let d = c.args.document.now in
    let status : d.status ≡ NonConservative = c.in-NonConservative.is in
    let forms : HaveForm d = forms-where_none d d.form.letters (λ (other : d.status ≡ Optimal). absurd (cc)) in
    circuit-before c.args.kind c.args.instance.now d c.requires.same c.requires.in_range forms status

pub returns-in-Infeasible-clause-duals : goal.returns-in-Infeasible-clause-duals
returns-in-Infeasible-clause-duals c =
    let d = c.args.document.now in
    let status : d.status ≡ Infeasible = c.in-Infeasible.is in
    of_all (λ (v : Verdict). v ≡ Accepted → HasFeasibleDuals c.args.kind c.args.instance.now d) (λ v is (other : d.status ≡ Optimal). absurd (cc)) c.judge_infeasible.result

pub returns-in-NonConservative-clause-duals : goal.returns-in-NonConservative-clause-duals
returns-in-NonConservative-clause-duals c =
    let d = c.args.document.now in
    let status : d.status ≡ NonConservative = c.in-NonConservative.is in
    of_all (λ (v : Verdict). v ≡ Accepted → HasFeasibleDuals c.args.kind c.args.instance.now d) (λ v is (other : d.status ≡ Optimal). absurd (cc)) c.judge_conservative.result
