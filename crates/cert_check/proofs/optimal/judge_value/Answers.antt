use Rattle.certificates.proofs.Common.{◌≡◌, ℤ, rules, refl, sym, ap, ◌∙◌, subst, arith, to_z, of_z, w64, BestProof, proof_of, value_for, DocStatus, HasFeasibleAnswer}
use Rattle.certificates.proofs.Common.{HasStatedWeight, HasValueBy, HavePathsBy, HasAllPathsBy, HasBarrierBeside, StatesTruthBy, best-by_value}
use Rattle.cert_check.specs.declared.rule.DocRule.TheVariants.{NotFeasible, WeightDiffers, ValueDiffers, PathForm}
use Rattle.cert_check.proofs.RuleLemmas.{by_duals, keeps-next, past-paths, optimal-all}
use Rattle.cert_check.proofs.optimal.judge_value.Goals as goal

abbrev Value : goal.Else-value-value_for → Type 0
Value c = c.args.value ≡ value_for c.args.kind c.args.instance.now c.args.document.now.weight

value : (c : goal.Else-value-value_for) → Value c
value c =
    let same : c.args.value ≡ c.value_for.result = search rules in
    let weight : to_z w64 (of_z w64 c.args.document.now.weight) ≡ c.args.document.now.weight = search rules in
    same ∙ c.value_for.ensures ∙ ap (λ (w : ℤ). value_for c.args.kind c.args.instance.now w) weight

pub returns-clause-verdict : goal.returns-clause-verdict
returns-clause-verdict c =
    let i = c.args.instance.now in
    let d = c.args.document.now in
    let proof = proof_of c.args.kind in
    let valued = by_duals (λ (p : BestProof). HasValueBy p c.args.kind i d) proof c.requires.proof (λ _. sym c.requires.value ∙ value c) in
    let barrier = by_duals (λ (p : BestProof). HasBarrierBeside p c.args.kind i d) proof c.requires.proof (λ _. tt) in
    let paths = by_duals (λ (p : BestProof). HavePathsBy p i d) proof c.requires.proof (λ _. tt) in
    let all = by_duals (λ (p : BestProof). HasAllPathsBy p d) proof c.requires.proof (λ _. tt) in
    optimal-all c.args.kind i d c.requires.status (past-paths c.args.kind i d (keeps-next c.args.kind i d ValueDiffers PathForm refl c.requires.before (λ _. valued)) paths all) barrier

pub returns-clause-sound : goal.returns-clause-sound
returns-clause-sound c =
    let i = c.args.instance.now in
    let d = c.args.document.now in
    let feasible : HasFeasibleAnswer c.args.kind i d = c.requires.before NotFeasible (omega arith) c.requires.status in
    let weighs : HasStatedWeight c.args.kind i d = c.requires.before WeightDiffers (omega arith) c.requires.status in
    λ _. subst (λ (s : DocStatus). StatesTruthBy s c.args.kind i d) (sym c.requires.status)
    (best-by_value c.args.kind i d c.args.value c.requires.proof feasible weighs (value c) c.requires.below c.requires.reached)
