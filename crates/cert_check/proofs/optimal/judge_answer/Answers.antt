use Rattle.mb_problem.proofs.Common.{feasible-places}
use Rattle.certificates.proofs.Common.{◌≡◌, refl, sym, ap, ◌∙◌, rules, subst, arith, ints, false≢true, Kind, Network, Document, answer_of, are_duals}
use Rattle.mb_problem.specs.declared.answer.Answer.{Answer}
use Rattle.mb_problem.specs.Feasible.{IsFeasible, weight_of}
use Rattle.cert_check.specs.declared.rule.DocRule.TheVariants.{NotFeasible, WeightDiffers, DualMissing}
use Rattle.cert_check.specs.Verdicts.{KeepsBefore}
use Rattle.cert_check.proofs.RuleLemmas.{keeps-next}
use Rattle.cert_check.proofs.VerdictLemmas.{refused}
use Rattle.cert_check.proofs.optimal.judge_answer.Goals as goal

module _ (kind : Kind) (i : Network) (d : Document) (a : Answer) (is : a ≡ answer_of kind i d) (before : KeepsBefore kind i d NotFeasible) (feasible : IsFeasible kind i a) where
  to_weight : KeepsBefore kind i d WeightDiffers
  to_weight = keeps-next kind i d NotFeasible WeightDiffers refl before (λ _. subst (λ (b : Answer). IsFeasible kind i b) is feasible)

  to_duals : weight_of kind i a ≡ d.weight → KeepsBefore kind i d DualMissing
  to_duals weighs = keeps-next kind i d WeightDiffers DualMissing refl to_weight (λ _. subst (λ (b : Answer). weight_of kind i b ≡ d.weight) is weighs)

pub weight-requires : goal.weight-requires
weight-requires c = feasible-places c.args.kind c.args.instance.now c.args.answer.now (c.in_ok-feasible.ensures.0 c.if-not-branch.false)

pub returns-then-not-branch : goal.returns-then-not-branch
returns-then-not-branch c =
    let lacks = λ (have : IsFeasible c.args.kind c.args.instance.now (answer_of c.args.kind c.args.instance.now c.args.document.now)).
    false≢true (sym c.if-not-branch.true ∙ c.in_ok-feasible.ensures.1 (subst (λ (b : Answer). IsFeasible c.args.kind c.args.instance.now b) (sym c.requires.answer) have)) in
    record { verdict = ((c.requires.status, lacks, refl), c.requires.before); sound = refused _ _; duals = refused _ _ }

pub returns-then-weight-from : goal.returns-then-weight-from
returns-then-weight-from c =
    let lacks = λ (have : weight_of c.args.kind c.args.instance.now (answer_of c.args.kind c.args.instance.now c.args.document.now) ≡ c.args.document.now.weight).
    c.if-weight-from.true (let same : weight_of c.args.kind c.args.instance.now c.args.answer.now ≡ c.args.document.now.weight =
    subst (λ (b : Answer). weight_of c.args.kind c.args.instance.now b ≡ c.args.document.now.weight) (sym c.requires.answer) have in omega (arith, ints, same)) in
    let kept = to_weight c.args.kind c.args.instance.now c.args.document.now _ c.requires.answer c.requires.before (c.in_ok-feasible.ensures.0 c.if-not-branch.false) in
    record { verdict = ((c.requires.status, lacks, refl), kept); sound = refused _ _; duals = refused _ _ }

pub judge_duals-requires-clause-proof : goal.judge_duals-requires-clause-proof
judge_duals-requires-clause-proof c = ap are_duals (sym c.proof.ensures ∙ c.in-Duals.is)

pub judge_duals-requires-clause-before : goal.judge_duals-requires-clause-before
judge_duals-requires-clause-before c =
    let weighs : weight_of c.args.kind c.args.instance.now c.args.answer.now ≡ c.args.document.now.weight = search rules in
    to_duals c.args.kind c.args.instance.now c.args.document.now _ c.requires.answer c.requires.before (c.in_ok-feasible.ensures.0 c.if-not-branch.false) weighs

pub judge_below-requires-clause-before : goal.judge_below-requires-clause-before
judge_below-requires-clause-before c =
    let weighs : weight_of c.args.kind c.args.instance.now c.args.answer.now ≡ c.args.document.now.weight = search rules in
    to_duals c.args.kind c.args.instance.now c.args.document.now _ c.requires.answer c.requires.before (c.in_ok-feasible.ensures.0 c.if-not-branch.false) weighs

pub judge_paths-requires-clause-before : goal.judge_paths-requires-clause-before
judge_paths-requires-clause-before c =
    let weighs : weight_of c.args.kind c.args.instance.now c.args.answer.now ≡ c.args.document.now.weight = search rules in
    to_duals c.args.kind c.args.instance.now c.args.document.now _ c.requires.answer c.requires.before (c.in_ok-feasible.ensures.0 c.if-not-branch.false) weighs
