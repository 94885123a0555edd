-- Each feasible answer is the answer of a code, so what is best among all codes is best.
use Rattle.mb_problem.proofs.Common.{◌≡◌, ℕ, ◌<◌, ◌≤◌, true, List, length, slice_index, Option, Some, None, ap, refl, sym, ◌∙◌, subst, arith, length-map}
use Rattle.mb_problem.proofs.Common.{get_or-map as read-map, form_of, edge_use_of, Network, IsNetwork, instance_edge_at, no_instance_edge, IsFeasible, IsAsGood, weight_of, most_by, IsInForm}
use Rattle.mb_problem.proofs.Common.{feasible-form, feasible-counts, feasible-most}
use Rattle.mb_problem.specs.declared.instance.InstanceEdge.{InstanceEdge}
use Rattle.mb_problem.specs.declared.kind.Kind.{Kind}
use Rattle.mb_problem.specs.declared.answer.Answer.TheVariants.{Counts, Walk, Nothing}
use Rattle.mb_problem.specs.declared.kind.AnswerForm.{AnswerForm}
use Rattle.mb_problem.specs.declared.kind.EdgeUse.{EdgeUse}
use Rattle.mb_problem.specs.declared.answer.Answer.{Answer}
use Rattle.brute_force.specs.Digits.{digit_lists}
use Rattle.brute_force.specs.Best.{is_counts, is_counted, most_in, most_of, mosts, IsBestOrNone}
use Rattle.brute_force.specs.Tried.{answer_of, IsBestBelow}
use Rattle.brute_force.proofs.Codes.{AreUpTo, up_to, code_of, code_of-below, digits-code_of}
use Rattle.mb_problem.specs.declared.kind.AnswerForm.TheVariants as form

-- an answer that is one count for each edge, none above its most
pub record IsCounted (kind : Kind) (i : Network) (answer : Answer) : Type 0 where
  pub counts : List ℕ
  pub is : answer ≡ Counts counts
  pub one_each : length counts ≡ length i.edges
  pub each : (k : ℕ) → k < length i.edges → slice_index counts k ≤ most_of kind i (instance_edge_at i k)

no_walk : (f : AnswerForm) (start : ℕ) (edges : List ℕ) → is_counts f ≡ true → IsInForm f (Walk start edges) → ⊥
no_walk form.Counts start edges k has = has
no_walk form.Walk start edges k has = absurd (cc)

no_nothing : (f : AnswerForm) → is_counts f ≡ true → IsInForm f Nothing → ⊥
no_nothing form.Counts k has = has
no_nothing form.Walk k has = absurd (cc)

counts_most : (f : AnswerForm) (often : EdgeUse) (i : Network) (e : InstanceEdge) → is_counts f ≡ true → most_by often i e ≡ most_in f often i e
counts_most form.Counts often i e k = refl
counts_most form.Walk often i e k = absurd (cc)

pub counted : (kind : Kind) (i : Network) (answer : Answer) → IsNetwork i → is_counted kind ≡ true → IsFeasible kind i answer → IsCounted kind i answer
counted kind i (Counts cs) network has f = record {
  counts = cs;
  is = refl;
  one_each = feasible-counts kind i cs f;
  each = λ k b. subst (λ (m : ℕ). slice_index cs k ≤ m) (counts_most (form_of kind) (edge_use_of kind) i (instance_edge_at i k) has) (feasible-most kind i cs network f k b);
}
counted kind i (Walk start edges) network k f = absurd (no_walk (form_of kind) start edges k (feasible-form kind i (Walk start edges) f))
counted kind i Nothing network k f = absurd (no_nothing (form_of kind) k (feasible-form kind i Nothing f))

-- each feasible answer is the answer of one of the codes
pub record HasCode (mosts : List ℕ) (answer : Answer) : Type 0 where
  pub code : ℕ
  pub below : code < digit_lists mosts
  pub is : answer ≡ answer_of mosts code

pub has_code : (kind : Kind) (i : Network) (answer : Answer) → IsNetwork i → is_counted kind ≡ true → IsFeasible kind i answer → HasCode (mosts kind i) answer
has_code kind i answer network k f =
    let ms = mosts kind i in
    let c = counted kind i answer network k f in
    let long : length ms ≡ length i.edges = length-map i.edges (most_of kind i) in
    let all : AreUpTo ms c.counts = up_to ms c.counts (c.one_each ∙ sym long) (λ k b.
    (let size : length c.counts ≡ length i.edges = c.one_each in
    let here : k < length i.edges = omega arith in
    subst (λ (m : ℕ). slice_index c.counts k ≤ m) (sym (read-map (most_of kind i) i.edges k no_instance_edge 0 here)) (c.each k here))) in
    record {
      code = code_of ms c.counts;
      below = code_of-below ms c.counts all;
      is = c.is ∙ ap (λ (cs : List ℕ). Counts cs) (sym (digits-code_of ms c.counts all));
    }

pub best_or_none : (kind : Kind) (i : Network) (codes : ℕ) (found : Option Answer) → IsNetwork i → is_counted kind ≡ true → codes ≡ digit_lists (mosts kind i)
    → IsBestBelow kind i (mosts kind i) codes found → IsBestOrNone kind i found
best_or_none kind i codes None network k all best = λ answer f.
    let c = has_code kind i answer network k f in
    best c.code (rw all c.below) (subst (IsFeasible kind i) c.is f)
best_or_none kind i codes (Some answer) network k all best = record {
  feasible = best.feasible;
  best = λ other f.
      let c = has_code kind i other network k f in
      subst (λ (a : Answer). IsAsGood kind (weight_of kind i answer) (weight_of kind i a)) (sym c.is) (best.best c.code (rw all c.below) (subst (IsFeasible kind i) c.is f));
}
