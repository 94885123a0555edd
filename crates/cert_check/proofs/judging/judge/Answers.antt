use Rattle.certificates.proofs.Common.{◌≡◌, ◌↔◌, None, sym, ◌∙◌, IsProved, first_out_of_range, forms-where_none, are-within, body_of, vertices_ascend}
use Rattle.cert_check.specs.declared.rule.Verdict.{Verdict}
use Rattle.cert_check.specs.declared.rule.Verdict.TheVariants.{Accepted}
use Rattle.cert_check.specs.Verdicts.{IsVerdict, HasFeasibleDuals}
use Rattle.cert_check.proofs.VerdictLemmas.{IsFormed, accepted-proved, if_both, outside_is}
use Rattle.cert_check.proofs.judging.judge.Goals as goal

pub returns-clause-accepted : goal.returns-clause-accepted
returns-clause-accepted c =
    let i = c.args.instance.now in
    let d = c.args.document.now in
    let formed : IsFormed d = record { vertices_ascend = vertices_ascend (body_of d) d.form.ordered; forms_where_none = λ other. forms-where_none d d.form.letters other } in
    if_both (IsVerdict c.args.kind i d) (λ (v : Verdict). v ≡ Accepted → HasFeasibleDuals c.args.kind i d) (λ (v : Verdict). (v ≡ Accepted) ↔ IsProved c.args.kind i d)
    (λ v verdict duals. accepted-proved c.args.kind i d v formed verdict duals) c.judge_claims.result c.judge_claims.ensures.verdict c.judge_claims.ensures.duals

pub judge_claims-requires-clause-within : goal.judge_claims-requires-clause-within
judge_claims-requires-clause-within c =
    let i = c.args.instance.now in
    let d = c.args.document.now in
    let none : first_out_of_range c.args.kind i d ≡ None = sym (outside_is c.args.kind i d c.extent_of-extent.result c.extent_of-extent.ensures) ∙ sym c.first_outside.ensures
    ∙ c.in_default.is in
    are-within c.args.kind i d none
