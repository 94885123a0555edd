-- A verdict accepts exactly what is proved.
use Rattle.certificates.proofs.Common.{◌≡◌, ◌↔◌, ℕ, false, None, Some, Result, Ok, Err, IfOk, length, refl, sym, ap, ◌∙◌, subst, length-map, Kind, BestProof, Duals}
use Rattle.certificates.proofs.Common.{LighterBarrier, OuterPaths, proof_of, are_duals, Network, vertices, Document, DocStatus, Optimal, Infeasible, NonConservative, DualLine, AscendsBy}
use Rattle.certificates.proofs.Common.{first_outside, first_out_of_range, HaveForm, HasDualsBy, HaveSlackBy, HasValueBy, HavePathsBy, HasAllPathsBy, HasBarrierBeside, HasBarrierByStatus}
use Rattle.certificates.proofs.Common.{AreWithin, ProvesBest, IsProved, ProvesOptimal, ProvesByStatus, are-within, has_duals}
use Rattle.cert_check.specs.declared.rule.DocRule.{DocRule}
use Rattle.cert_check.specs.declared.rule.DocRule.TheVariants.{DocForm, KindDiffers, DocRange, NotFeasible, WeightDiffers, DualMissing, SetForm, Slack, ValueDiffers, NotBarrier, NotClosed}
use Rattle.cert_check.specs.declared.rule.DocRule.TheVariants.{NotCircuit, PathForm, PathMissing}
use Rattle.cert_check.specs.declared.rule.Verdict.{Verdict}
use Rattle.cert_check.specs.declared.rule.Verdict.TheVariants.{Accepted, Rejected}
use Rattle.cert_check.specs.declared.extent.Sizes.{Sizes}
use Rattle.cert_check.specs.Extents.{IsExtent}
use Rattle.cert_check.specs.Verdicts.{Keeps, Breaks, IsVerdict, AreDualsBy, HasFeasibleDuals}

-- the first line out of range, by the extent of the instance
pub outside_is : (kind : Kind) (i : Network) (d : Document) (extent : Sizes) → IsExtent kind i extent →
    first_outside extent.vertices extent.edges extent.certified d ≡ first_out_of_range kind i d
outside_is kind i d extent is =
    ap (λ (n : ℕ). first_outside n extent.edges extent.certified d) is.vertices
    ∙ ap (λ (m : ℕ). first_outside (vertices i) m extent.certified d) is.edges ∙ ap (λ (p : ℕ). first_outside (vertices i) (length i.edges) p d) is.certified

-- what the type of a document keeps, as far as it counts here
pub record IsFormed (d : Document) : Type 0 where
  pub vertices_ascend : AscendsBy (λ y. y.vertex) d.duals
  pub forms_where_none : (d.status ≡ Optimal → are_duals (proof_of d.kind) ≡ false) → HaveForm d

-- a proof by the status that the document has
optimal_of : (kind : Kind) (i : Network) (d : Document) → IsProved kind i d → d.status ≡ Optimal → ProvesOptimal kind i d
optimal_of kind i d p status = subst (λ (s : DocStatus). ProvesByStatus s kind i d) status p.proves

-- what proves an answer best keeps the rules of duals, and that of the barrier beside it

best-duals : (proof : BestProof) (kind : Kind) (i : Network) (d : Document) → IsFormed d → AreWithin kind i d → ProvesBest proof kind i d → HasDualsBy proof kind i d
best-duals (Duals value) kind i d formed within best = has_duals kind i d formed.vertices_ascend within (sym (length-map d.duals (λ (y : DualLine). y.dual)) ∙ best.duals.one_each)
best-duals LighterBarrier kind i d formed within best = tt
best-duals OuterPaths kind i d formed within best = tt

best-slack : (proof : BestProof) (kind : Kind) (i : Network) (d : Document) → ProvesBest proof kind i d → HaveSlackBy proof kind i d
best-slack (Duals value) kind i d best = best.duals.slacks
best-slack LighterBarrier kind i d best = tt
best-slack OuterPaths kind i d best = tt

best-value : (proof : BestProof) (kind : Kind) (i : Network) (d : Document) → ProvesBest proof kind i d → HasValueBy proof kind i d
best-value (Duals value) kind i d best = best.value
best-value LighterBarrier kind i d best = tt
best-value OuterPaths kind i d best = tt

best-beside : (proof : BestProof) (kind : Kind) (i : Network) (d : Document) → ProvesBest proof kind i d → HasBarrierBeside proof kind i d
best-beside (Duals value) kind i d best = tt
best-beside LighterBarrier kind i d best = best
best-beside OuterPaths kind i d best = best.decomposed

best-paths : (proof : BestProof) (kind : Kind) (i : Network) (d : Document) → ProvesBest proof kind i d → HavePathsBy proof i d × HasAllPathsBy proof d
best-paths (Duals value) kind i d best = (tt, tt)
best-paths LighterBarrier kind i d best = (tt, tt)
best-paths OuterPaths kind i d best = (best.paths, best.all)

best-forms : (proof : BestProof) (kind : Kind) (i : Network) (d : Document) → IsFormed d → are_duals (proof_of d.kind) ≡ are_duals proof → ProvesBest proof kind i d → HaveForm d
best-forms (Duals value) kind i d formed is best = best.forms
best-forms LighterBarrier kind i d formed is best = formed.forms_where_none (λ _. is)
best-forms OuterPaths kind i d formed is best = formed.forms_where_none (λ _. is)

-- and they make such a proof
best_of : (proof : BestProof) (kind : Kind) (i : Network) (d : Document) → HaveForm d → AreDualsBy proof kind i d → HasValueBy proof kind i d → HavePathsBy proof i d
    → HasAllPathsBy proof d → HasBarrierBeside proof kind i d → ProvesBest proof kind i d
best_of (Duals value) kind i d forms duals is paths all barrier = record { forms = forms; duals = duals; value = is }
best_of LighterBarrier kind i d forms duals is paths all barrier = barrier
best_of OuterPaths kind i d forms duals is paths all barrier = record { paths = paths; all = all; decomposed = barrier }

barrier_of : (s : DocStatus) (kind : Kind) (i : Network) (d : Document) → ProvesByStatus s kind i d → HasBarrierByStatus s kind i d
barrier_of Optimal kind i d p = best-beside (proof_of kind) kind i d p.best
barrier_of Infeasible kind i d p = p.0
barrier_of NonConservative kind i d p = tt

set_forms : (kind : Kind) (i : Network) (d : Document) → IsFormed d → IsProved kind i d → (s : DocStatus) → d.status ≡ s → HaveForm d
set_forms kind i d formed p Optimal is = best-forms (proof_of kind) kind i d formed (ap (λ (k : Kind). are_duals (proof_of k)) p.same_kind) (optimal_of kind i d p is).best
set_forms kind i d formed p Infeasible is = formed.forms_where_none (λ (other : d.status ≡ Optimal). absurd (cc))
set_forms kind i d formed p NonConservative is = formed.forms_where_none (λ (other : d.status ≡ Optimal). absurd (cc))

-- what is proved keeps every rule
pub proved-keeps : (kind : Kind) (i : Network) (d : Document) → IsFormed d → IsProved kind i d → (rule : DocRule) → Keeps kind i d rule
proved-keeps kind i d formed p DocForm = tt
proved-keeps kind i d formed p KindDiffers = p.same_kind
proved-keeps kind i d formed p DocRange = p.in_range
proved-keeps kind i d formed p NotFeasible = λ status. (optimal_of kind i d p status).feasible
proved-keeps kind i d formed p WeightDiffers = λ status. (optimal_of kind i d p status).weighs
proved-keeps kind i d formed p DualMissing = λ status. best-duals (proof_of kind) kind i d formed (are-within kind i d p.in_range) (optimal_of kind i d p status).best
proved-keeps kind i d formed p SetForm = set_forms kind i d formed p d.status refl
proved-keeps kind i d formed p Slack = λ status. best-slack (proof_of kind) kind i d (optimal_of kind i d p status).best
proved-keeps kind i d formed p ValueDiffers = λ status. best-value (proof_of kind) kind i d (optimal_of kind i d p status).best
proved-keeps kind i d formed p PathForm = λ status. (best-paths (proof_of kind) kind i d (optimal_of kind i d p status).best).0
proved-keeps kind i d formed p PathMissing = λ status. (best-paths (proof_of kind) kind i d (optimal_of kind i d p status).best).1
proved-keeps kind i d formed p NotBarrier = barrier_of d.status kind i d p.proves
proved-keeps kind i d formed p NotClosed = λ status. (subst (λ (s : DocStatus). ProvesByStatus s kind i d) status p.proves).1
proved-keeps kind i d formed p NotCircuit = λ status. subst (λ (s : DocStatus). ProvesByStatus s kind i d) status p.proves

proves-by : (kind : Kind) (i : Network) (d : Document) → HasFeasibleDuals kind i d → ((rule : DocRule) → Keeps kind i d rule) → (s : DocStatus) → d.status ≡ s
    → ProvesByStatus s kind i d
proves-by kind i d duals keeps Optimal is =
    let barrier = subst (λ (s : DocStatus). HasBarrierByStatus s kind i d) is (keeps NotBarrier) in
    record {
      feasible = keeps NotFeasible is;
      weighs = keeps WeightDiffers is;
      best = best_of (proof_of kind) kind i d (keeps SetForm) (duals is) (keeps ValueDiffers is) (keeps PathForm is) (keeps PathMissing is) barrier;
    }
proves-by kind i d duals keeps Infeasible is = (subst (λ (s : DocStatus). HasBarrierByStatus s kind i d) is (keeps NotBarrier), keeps NotClosed is)
proves-by kind i d duals keeps NonConservative is = keeps NotCircuit is

-- what keeps every rule is proved, where its duals are feasible
keeps-proved : (kind : Kind) (i : Network) (d : Document) → HasFeasibleDuals kind i d → ((rule : DocRule) → Keeps kind i d rule) → IsProved kind i d
keeps-proved kind i d duals keeps = record { same_kind = keeps KindDiffers; in_range = keeps DocRange; proves = proves-by kind i d duals keeps d.status refl }

-- no rule is both kept and broken
not_both : (kind : Kind) (i : Network) (d : Document) (rule : DocRule) (line : ℕ) → Breaks kind i d rule line → Keeps kind i d rule → ⊥
not_both kind i d DocForm line breaks keeps = breaks
not_both kind i d KindDiffers line breaks keeps = breaks.0 keeps
not_both kind i d DocRange line breaks keeps = (let here : first_out_of_range kind i d ≡ Some line = breaks in let none : first_out_of_range kind i d ≡ None = keeps in absurd (cc))
not_both kind i d NotFeasible line breaks keeps = breaks.1 (keeps breaks.0)
not_both kind i d WeightDiffers line breaks keeps = breaks.1 (keeps breaks.0)
not_both kind i d DualMissing line breaks keeps = breaks.1 (keeps breaks.0)
not_both kind i d SetForm line breaks keeps = breaks.lacks (keeps breaks.at breaks.in_range)
not_both kind i d Slack line breaks keeps = breaks.1 (keeps breaks.0)
not_both kind i d ValueDiffers line breaks keeps = breaks.1 (keeps breaks.0)
not_both kind i d PathForm line breaks keeps = breaks.1 (keeps breaks.0)
not_both kind i d PathMissing line breaks keeps = breaks.1 (keeps breaks.0)
not_both kind i d NotBarrier line breaks keeps = breaks.0 keeps
not_both kind i d NotClosed line breaks keeps = breaks.1 (keeps breaks.0)
not_both kind i d NotCircuit line breaks keeps = breaks.1 (keeps breaks.0)

accepted_of : (kind : Kind) (i : Network) (d : Document) (v : Verdict) → IsFormed d → IsVerdict kind i d v → IsProved kind i d → v ≡ Accepted
accepted_of kind i d Accepted formed verdict proved = refl
accepted_of kind i d (Rejected rule line) formed verdict proved = absurd (not_both kind i d rule line verdict.0 (proved-keeps kind i d formed proved rule))

pub accepted-proved : (kind : Kind) (i : Network) (d : Document) (v : Verdict) → IsFormed d → IsVerdict kind i d v → (v ≡ Accepted → HasFeasibleDuals kind i d) →
    (v ≡ Accepted) ↔ IsProved kind i d
accepted-proved kind i d v formed verdict duals = (
  (λ is. keeps-proved kind i d (duals is) (subst (IsVerdict kind i d) is verdict)),
  (λ proved. accepted_of kind i d v formed verdict proved),
)

-- a verdict that refuses doesn't accept
pub refused : {P : Type 0} (rule : DocRule) (line : ℕ) → Rejected rule line ≡ Accepted → P
refused rule line same = absurd (cc)

-- what follows of two facts about a value follows of those about the result
pub if_both : {E : Type 0} (P Q R : Verdict → Type 0) → ((v : Verdict) → P v → Q v → R v) → (r : Result Verdict E) → IfOk r P → IfOk r Q → IfOk r R
if_both P Q R step (Ok v) h g = step v h g
if_both P Q R step (Err e) h g = tt

-- what holds of all values holds of the result
pub of_all : {E : Type 0} (P : Verdict → Type 0) → ((v : Verdict) → P v) → (r : Result Verdict E) → IfOk r P
of_all P each (Ok v) = each v
of_all P each (Err e) = tt
