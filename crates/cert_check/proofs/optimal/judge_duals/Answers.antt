use Rattle.certificates.proofs.Common.{◌≡◌, length, refl, sym, ◌∙◌, BestProof, proof_of, gadget_graph, AscendsBy, body_of, vertices_ascend, HasDuals, HasDualsBy, AreWithin}
use Rattle.certificates.proofs.Common.{has_duals, duals_size}
use Rattle.cert_check.specs.declared.rule.DocRule.TheVariants.{DualMissing, SetForm}
use Rattle.cert_check.proofs.RuleLemmas.{by_duals, keeps-next}
use Rattle.cert_check.proofs.optimal.judge_duals.Goals as goal

pub returns-then-len-extent-clause-verdict : goal.returns-then-len-extent-clause-verdict
returns-then-len-extent-clause-verdict c =
    let i = c.args.instance.now in
    let d = c.args.document.now in
    let within : AreWithin c.args.kind i d = c.requires.within in
    let ascending : AscendsBy (λ y. y.vertex) d.duals = vertices_ascend (body_of d) d.form.ordered in
    let lacks : HasDuals c.args.kind i d →
    ⊥ = λ have. c.if-len-extent.true (c.len.ensures ∙ duals_size c.args.kind i d ascending within have ∙ sym c.requires.extent.certified) in
    ((c.requires.status, by_duals (λ (p : BestProof). HasDualsBy p c.args.kind i d → ⊥) (proof_of c.args.kind) c.requires.proof (λ _. lacks), refl), c.requires.before)

pub judge_sets-requires-clause-size : goal.judge_sets-requires-clause-size
judge_sets-requires-clause-size c = sym c.len.ensures ∙ c.if-len-extent.false ∙ c.requires.extent.certified

pub judge_sets-requires-clause-before : goal.judge_sets-requires-clause-before
judge_sets-requires-clause-before c =
    let i = c.args.instance.now in
    let d = c.args.document.now in
    let within : AreWithin c.args.kind i d = c.requires.within in
    let ascending : AscendsBy (λ y. y.vertex) d.duals = vertices_ascend (body_of d) d.form.ordered in
    let size : length d.duals ≡ (gadget_graph c.args.kind i).vertices = sym c.len.ensures ∙ c.if-len-extent.false ∙ c.requires.extent.certified in
    let have : HasDuals c.args.kind i d = has_duals c.args.kind i d ascending within size in
    let wanted = by_duals (λ (p : BestProof). HasDualsBy p c.args.kind i d) (proof_of c.args.kind) c.requires.proof (λ _. have) in
    keeps-next c.args.kind i d DualMissing SetForm refl c.requires.before (λ _. wanted)
