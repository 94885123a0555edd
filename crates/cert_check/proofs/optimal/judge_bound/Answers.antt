use Rattle.certificates.proofs.Common.{◌≡◌, List, ℤ, length, map, All, refl, sym, ap, ◌∙◌, subst, length-map, OddSet, AreDuals, IsNumber, Multigraph, AreEarlier, HaveItemForm}
use Rattle.certificates.proofs.Common.{IsGivenWithin, listed_sets, BestProof, proof_of, gadget_graph, DualLine, duals_of, sets_of, HaveForm, HaveSlack, HaveSlackBy, listed, duals-in}
use Rattle.certificates.proofs.Common.{duals-numbers, given-within, given-numbers, given-earlier, ℕ, pos, ◌≤ℤ◌, rules, to_z, of_z}
use Rattle.graph_theory.proofs.Common.{◌*ℤ◌, w128, IsPerfect, weight, dual_value}
use Rattle.dual_check.specs.Fault.{IsFirstSetFault, IsFirstSlackFault}
use Rattle.cert_check.specs.declared.rule.DocRule.TheVariants.{SetForm, Slack, ValueDiffers}
use Rattle.cert_check.specs.Verdicts.{KeepsBefore}
use Rattle.cert_check.proofs.RuleLemmas.{by_duals, keeps-next}
use Rattle.cert_check.proofs.BoundLemmas.{carry}
use Rattle.cert_check.proofs.FaultLemmas.{no_slack, have-form, first-sorted}
use Rattle.cert_check.proofs.VerdictLemmas.{refused}
use Rattle.cert_check.proofs.optimal.judge_bound.Goals as goal

pub bound-requires-clause-one_each : goal.bound-requires-clause-one_each
bound-requires-clause-one_each c =
    let d = c.args.document.now in
    let ys : c.deref.result.now ≡ duals_of d = c.deref.ensures.value ∙ c.in_ok-y.ensures ∙ ap (λ (xs : List DualLine). map (λ (y : DualLine). y.dual) xs) c.as_slice.ensures in
    ap length ys ∙ length-map d.duals (λ (y : DualLine). y.dual) ∙ c.requires.size ∙ sym (ap (λ (g : Multigraph). g.vertices) c.in_ok-graph.ensures.graph)

pub bound-requires-clause-y_numbers : goal.bound-requires-clause-y_numbers
bound-requires-clause-y_numbers c =
    let i = c.args.instance.now in
    let d = c.args.document.now in
    let ys : c.deref.result.now ≡ duals_of d = c.deref.ensures.value ∙ c.in_ok-y.ensures ∙ ap (λ (xs : List DualLine). map (λ (y : DualLine). y.dual) xs) c.as_slice.ensures in
    subst (λ (y : List ℤ). All IsNumber y) (sym ys) (duals-numbers (gadget_graph c.args.kind i).vertices d.duals (duals-in c.args.kind i d c.requires.within))

pub bound-requires-clause-set_numbers : goal.bound-requires-clause-set_numbers
bound-requires-clause-set_numbers c =
    subst (All (λ (s : OddSet). IsNumber s.dual)) (sym c.requires.sets) (given-numbers c.args.kind c.args.instance.now c.args.document.now c.requires.within)

pub bound-requires-clause-sets_within : goal.bound-requires-clause-sets_within
bound-requires-clause-sets_within c =
    let i = c.args.instance.now in
    subst (λ (g : Multigraph). All (IsGivenWithin g.vertices) c.args.sets.now) (sym c.in_ok-graph.ensures.graph)
    (subst (All (IsGivenWithin (gadget_graph c.args.kind i).vertices)) (sym c.requires.sets) (given-within c.args.kind i c.args.document.now c.requires.within))

pub bound-requires-clause-earlier : goal.bound-requires-clause-earlier
bound-requires-clause-earlier c = subst AreEarlier (sym c.requires.sets) (given-earlier c.args.kind c.args.instance.now c.args.document.now c.requires.within)

pub judge_value-requires-clause-value : goal.judge_value-requires-clause-value
judge_value-requires-clause-value c =
    let d = c.args.document.now in
    let ys : c.deref.result.now ≡ duals_of d = c.deref.ensures.value ∙ c.in_ok-y.ensures ∙ ap (λ (xs : List DualLine). map (λ (y : DualLine). y.dual) xs) c.as_slice.ensures in
    let same : to_z w128 (of_z w128 c.in-Ok.value) ≡ c.in-Ok.value = search rules in
    same ∙ carry (λ g y ws. c.in-Ok.value ≡ dual_value y (listed_sets g.vertices ws)) _ _ _ _ _ _ c.in_ok-graph.ensures.graph ys c.requires.sets c.in-Ok.ensures.value

pub judge_value-requires-clause-below : goal.judge_value-requires-clause-below
judge_value-requires-clause-below c =
    let same : to_z w128 (of_z w128 c.in-Ok.value) ≡ c.in-Ok.value = search rules in
    let g = gadget_graph c.args.kind c.args.instance.now in
    subst (λ (v : ℤ). (counts : List ℕ) → IsPerfect g counts → v ≤ℤ (pos 2 *ℤ weight g counts)) (sym same)
    (subst (λ (g : Multigraph). (counts : List ℕ) → IsPerfect g counts → c.in-Ok.value ≤ℤ (pos 2 *ℤ weight g counts)) c.in_ok-graph.ensures.graph c.in-Ok.ensures.below)

pub judge_value-requires-clause-duals : goal.judge_value-requires-clause-duals
judge_value-requires-clause-duals c =
    let d = c.args.document.now in
    let ys : c.deref.result.now ≡ duals_of d = c.deref.ensures.value ∙ c.in_ok-y.ensures ∙ ap (λ (xs : List DualLine). map (λ (y : DualLine). y.dual) xs) c.as_slice.ensures in
    carry (λ g y ws. AreDuals g y (listed_sets g.vertices ws)) _ _ _ _ _ _ c.in_ok-graph.ensures.graph ys c.requires.sets c.in-Ok.ensures.duals

pub judge_value-requires-clause-before : goal.judge_value-requires-clause-before
judge_value-requires-clause-before c =
    let i = c.args.instance.now in
    let d = c.args.document.now in
    let ys : c.deref.result.now ≡ duals_of d = c.deref.ensures.value ∙ c.in_ok-y.ensures ∙ ap (λ (xs : List DualLine). map (λ (y : DualLine). y.dual) xs) c.as_slice.ensures in
    let duals : AreDuals (gadget_graph c.args.kind i) (duals_of d) (listed c.args.kind i d) =
    carry (λ g y ws. AreDuals g y (listed_sets g.vertices ws)) _ _ _ _ _ _ c.in_ok-graph.ensures.graph ys c.requires.sets c.in-Ok.ensures.duals in
    let have : HaveItemForm c.args.sets.now = c.in-Ok.ensures.forms in
    let forms : HaveForm d = have-form d c.requires.sorted (subst HaveItemForm c.requires.sets have) in
    let to_slacks : KeepsBefore c.args.kind i d Slack = keeps-next c.args.kind i d SetForm Slack refl c.requires.before forms in
    let slacks = by_duals (λ (p : BestProof). HaveSlackBy p c.args.kind i d) (proof_of c.args.kind) c.requires.proof (λ _. duals.slacks) in
    keeps-next c.args.kind i d Slack ValueDiffers refl to_slacks (λ _. slacks)

pub refuse_set-requires-clause-fault : goal.refuse_set-requires-clause-fault
refuse_set-requires-clause-fault c =
    let found : IsFirstSetFault c.args.sets.now c.in-Err-SetForm.number = rw c.in-Err-SetForm.field-0-is at c.in-Err-SetForm.ensures.fault in
    first-sorted c.args.document.now c.in-Err-SetForm.number c.requires.sorted (subst (λ (ws : List OddSet). IsFirstSetFault ws c.in-Err-SetForm.number) c.requires.sets found)

pub returns-in-Err-Slack : goal.returns-in-Err-Slack
returns-in-Err-Slack c =
    let i = c.args.instance.now in
    let d = c.args.document.now in
    let e = c.in-Err-Slack.field-0-0 in
    let ys : c.deref.result.now ≡ duals_of d = c.deref.ensures.value ∙ c.in_ok-y.ensures ∙ ap (λ (xs : List DualLine). map (λ (y : DualLine). y.dual) xs) c.as_slice.ensures in
    let found : IsFirstSlackFault c.in_ok-graph.graph c.deref.result.now c.args.sets.now e = rw c.in-Err-Slack.field-0-is at c.in-Err-Slack.ensures.fault in
    let fault : IsFirstSlackFault (gadget_graph c.args.kind i) (duals_of d) (sets_of d) e =
    carry (λ g y ws. IsFirstSlackFault g y ws e) _ _ _ _ _ _ c.in_ok-graph.ensures.graph ys c.requires.sets found in
    let forms : HaveForm d = have-form d c.requires.sorted fault.forms in
    let to_slacks : KeepsBefore c.args.kind i d Slack = keeps-next c.args.kind i d SetForm Slack refl c.requires.before forms in
    let lacks : HaveSlack c.args.kind i d → ⊥ = λ have. no_slack (gadget_graph c.args.kind i) (duals_of d) (sets_of d) e fault have in
    record {
      verdict = ((c.requires.status, by_duals (λ (p : BestProof). HaveSlackBy p c.args.kind i d → ⊥) (proof_of c.args.kind) c.requires.proof (λ _. lacks), refl), to_slacks);
      sound = refused _ _;
      duals = refused _ _;
    }

pub returns-in-Err-SetForm : goal.returns-in-Err-SetForm
returns-in-Err-SetForm c =
    record { verdict = c.refuse_set.ensures.verdict; sound = λ same. absurd (c.refuse_set.ensures.refused same); duals = λ same. absurd (c.refuse_set.ensures.refused same) }
