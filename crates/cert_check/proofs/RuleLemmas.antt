-- The rules in their order.
use Rattle.certificates.proofs.Common.{◌≡◌, ℕ, ◌+◌, ◌≤◌, ◌==◌, true, false, cond, None, refl, sym, ap, ◌∙◌, subst, arith, dec_lt, Kind, BestProof, Duals}
use Rattle.certificates.proofs.Common.{LighterBarrier, OuterPaths, DualValue, proof_of, are_duals, Network, Document, DocStatus, Optimal, Infeasible, NonConservative, first_out_of_range}
use Rattle.certificates.proofs.Common.{HaveForm, HasDualsBy, HaveSlackBy, HasValueBy, HaveWantedPaths, HasAllWantedPaths, HasBarrierBeside, HasBarrierByStatus, forms-where_none}
use Rattle.cert_check.specs.declared.rule.DocRule.{DocRule}
use Rattle.cert_check.specs.declared.rule.DocRule.TheVariants.{DocForm, KindDiffers, DocRange, NotFeasible, WeightDiffers, DualMissing, SetForm, Slack, ValueDiffers, NotBarrier, NotClosed}
use Rattle.cert_check.specs.declared.rule.DocRule.TheVariants.{NotCircuit, PathForm, PathMissing}
use Rattle.cert_check.specs.Verdicts.{Keeps, KeepsBefore, rank}

rule_at : ℕ → DocRule
rule_at n = cond (n == 1) DocForm (cond (n == 2) KindDiffers (cond (n == 3) DocRange (cond (n == 4) NotFeasible (cond (n == 5) WeightDiffers (cond (n == 6) DualMissing (cond (n == 7) SetForm
    (cond (n == 8) Slack (cond (n == 9) ValueDiffers (cond (n == 10) PathForm (cond (n == 11) PathMissing (cond (n == 12) NotBarrier (cond (n == 13) NotClosed NotCircuit))))))))))))

rule_at-rank : (rule : DocRule) → rule_at (rank rule) ≡ rule
unfolding rule_at
rule_at-rank DocForm = refl
rule_at-rank KindDiffers = refl
rule_at-rank DocRange = refl
rule_at-rank NotFeasible = refl
rule_at-rank WeightDiffers = refl
rule_at-rank DualMissing = refl
rule_at-rank SetForm = refl
rule_at-rank Slack = refl
rule_at-rank ValueDiffers = refl
rule_at-rank PathForm = refl
rule_at-rank PathMissing = refl
rule_at-rank NotBarrier = refl
rule_at-rank NotClosed = refl
rule_at-rank NotCircuit = refl

rank-injective : (one other : DocRule) → rank one ≡ rank other → one ≡ other
rank-injective one other same = sym (rule_at-rank one) ∙ ap rule_at same ∙ rule_at-rank other

rank-most : (rule : DocRule) → rank rule ≤ 14
rank-most DocForm = omega arith
rank-most KindDiffers = omega arith
rank-most DocRange = omega arith
rank-most NotFeasible = omega arith
rank-most WeightDiffers = omega arith
rank-most DualMissing = omega arith
rank-most SetForm = omega arith
rank-most Slack = omega arith
rank-most ValueDiffers = omega arith
rank-most PathForm = omega arith
rank-most PathMissing = omega arith
rank-most NotBarrier = omega arith
rank-most NotClosed = omega arith
rank-most NotCircuit = omega arith

-- one more rule is kept
pub keeps-next : (kind : Kind) (i : Network) (d : Document) (rule next : DocRule) → rank next ≡ rank rule + 1 → KeepsBefore kind i d rule → Keeps kind i d rule → KeepsBefore kind i d next
keeps-next kind i d rule next follows before kept earlier low = elim (dec_lt (rank earlier) (rank rule)) [
  | yes h ↦ before earlier h
  | no h ↦ subst (Keeps kind i d) (rank-injective rule earlier (omega arith)) kept
]

-- all rules are kept
pub keeps-all : (kind : Kind) (i : Network) (d : Document) → KeepsBefore kind i d NotCircuit → Keeps kind i d NotCircuit → (rule : DocRule) → Keeps kind i d rule
keeps-all kind i d before kept rule = elim (dec_lt (rank rule) 14) [
  | yes h ↦ before rule h
  | no h ↦ subst (Keeps kind i d) (rank-injective NotCircuit rule (let most = rank-most rule in omega arith)) kept
]

-- a document of the kind in range that states that nothing is feasible: all rules before the barrier's are kept
pub infeasible-before : (kind : Kind) (i : Network) (d : Document) → d.kind ≡ kind → first_out_of_range kind i d ≡ None → HaveForm d → d.status ≡ Infeasible → KeepsBefore kind i d NotBarrier
infeasible-before kind i d same in_range forms status DocForm low = tt
infeasible-before kind i d same in_range forms status KindDiffers low = same
infeasible-before kind i d same in_range forms status DocRange low = in_range
infeasible-before kind i d same in_range forms status NotFeasible low = λ (other : d.status ≡ Optimal). absurd (cc)
infeasible-before kind i d same in_range forms status WeightDiffers low = λ (other : d.status ≡ Optimal). absurd (cc)
infeasible-before kind i d same in_range forms status DualMissing low = λ (other : d.status ≡ Optimal). absurd (cc)
infeasible-before kind i d same in_range forms status SetForm low = forms
infeasible-before kind i d same in_range forms status Slack low = λ (other : d.status ≡ Optimal). absurd (cc)
infeasible-before kind i d same in_range forms status ValueDiffers low = λ (other : d.status ≡ Optimal). absurd (cc)
infeasible-before kind i d same in_range forms status PathForm low = λ (other : d.status ≡ Optimal). absurd (cc)
infeasible-before kind i d same in_range forms status PathMissing low = λ (other : d.status ≡ Optimal). absurd (cc)
infeasible-before kind i d same in_range forms status NotBarrier low = absurd (omega arith)
infeasible-before kind i d same in_range forms status NotClosed low = absurd (omega arith)
infeasible-before kind i d same in_range forms status NotCircuit low = absurd (omega arith)

-- a document of the kind in range that states that some circuit weighs less than 0: all rules before the circuit's are kept
pub circuit-before : (kind : Kind) (i : Network) (d : Document) → d.kind ≡ kind → first_out_of_range kind i d ≡ None → HaveForm d → d.status ≡ NonConservative →
    KeepsBefore kind i d NotCircuit
circuit-before kind i d same in_range forms status DocForm low = tt
circuit-before kind i d same in_range forms status KindDiffers low = same
circuit-before kind i d same in_range forms status DocRange low = in_range
circuit-before kind i d same in_range forms status NotFeasible low = λ (other : d.status ≡ Optimal). absurd (cc)
circuit-before kind i d same in_range forms status WeightDiffers low = λ (other : d.status ≡ Optimal). absurd (cc)
circuit-before kind i d same in_range forms status DualMissing low = λ (other : d.status ≡ Optimal). absurd (cc)
circuit-before kind i d same in_range forms status SetForm low = forms
circuit-before kind i d same in_range forms status Slack low = λ (other : d.status ≡ Optimal). absurd (cc)
circuit-before kind i d same in_range forms status ValueDiffers low = λ (other : d.status ≡ Optimal). absurd (cc)
circuit-before kind i d same in_range forms status PathForm low = λ (other : d.status ≡ Optimal). absurd (cc)
circuit-before kind i d same in_range forms status PathMissing low = λ (other : d.status ≡ Optimal). absurd (cc)
circuit-before kind i d same in_range forms status NotBarrier low = subst (λ (s : DocStatus). HasBarrierByStatus s kind i d) (sym status) tt
circuit-before kind i d same in_range forms status NotClosed low = λ (other : d.status ≡ Infeasible). absurd (cc)
circuit-before kind i d same in_range forms status NotCircuit low = absurd (omega arith)

-- what holds of all duals holds of what proves an answer best, where that is duals
pub by_duals : (P : BestProof → Type 0) (proof : BestProof) → are_duals proof ≡ true → ((value : DualValue) → P (Duals value)) → P proof
by_duals P (Duals value) duals each = each value
by_duals P LighterBarrier duals each = absurd (cc)
by_duals P OuterPaths duals each = absurd (cc)

-- a document that states a best answer and keeps all rules up to the barrier's: all rules are kept
pub optimal-all : (kind : Kind) (i : Network) (d : Document) → d.status ≡ Optimal → KeepsBefore kind i d NotBarrier → HasBarrierBeside (proof_of kind) kind i d
    → (rule : DocRule) → Keeps kind i d rule
optimal-all kind i d status before barrier =
    let to_part = keeps-next kind i d NotBarrier NotClosed refl before (subst (λ (s : DocStatus). HasBarrierByStatus s kind i d) (sym status) barrier) in
    keeps-all kind i d (keeps-next kind i d NotClosed NotCircuit refl to_part (λ (other : d.status ≡ Infeasible). absurd (cc))) (λ (other : d.status ≡ NonConservative). absurd (cc))

-- nothing is asked of duals where no duals prove an answer best

no_duals : (proof : BestProof) (kind : Kind) (i : Network) (d : Document) → are_duals proof ≡ false →
    HasDualsBy proof kind i d × HaveSlackBy proof kind i d × HasValueBy proof kind i d
no_duals (Duals value) kind i d none = absurd (cc)
no_duals LighterBarrier kind i d none = (tt, tt, tt)
no_duals OuterPaths kind i d none = (tt, tt, tt)

-- so all rules of duals are kept, as such a document has no z line
pub past-duals : (kind : Kind) (i : Network) (d : Document) → are_duals (proof_of kind) ≡ false → KeepsBefore kind i d DualMissing → KeepsBefore kind i d PathForm
past-duals kind i d none before =
    let same : d.kind ≡ kind = before KindDiffers (omega arith) in
    let forms : HaveForm d = forms-where_none d d.form.letters (λ _. ap (λ (k : Kind). are_duals (proof_of k)) same ∙ none) in
    let kept = no_duals (proof_of kind) kind i d none in
    let to_slack = keeps-next kind i d SetForm Slack refl (keeps-next kind i d DualMissing SetForm refl before (λ _. kept.0)) forms in
    keeps-next kind i d ValueDiffers PathForm refl (keeps-next kind i d Slack ValueDiffers refl to_slack (λ _. kept.1)) (λ _. kept.2)

-- the rules of paths are kept, and all before them: all before the barrier's are
pub past-paths : (kind : Kind) (i : Network) (d : Document) → KeepsBefore kind i d PathForm → HaveWantedPaths kind i d → HasAllWantedPaths kind d → KeepsBefore kind i d NotBarrier
past-paths kind i d before paths all = keeps-next kind i d PathMissing NotBarrier refl (keeps-next kind i d PathForm PathMissing refl before (λ _. paths)) (λ _. all)
