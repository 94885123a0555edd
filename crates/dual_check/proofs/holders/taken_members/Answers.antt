use Rattle.graph_theory.proofs.Common.{◌≡◌, ◌≤◌, ◌∙◌, sym, ap, subst, ℕ, ◌&&◌, cond, List, [], ◌∷◌, ◌++◌, All, length, arith, get_or_read, holds}
use Rattle.graph_theory.proofs.Common.{IsGivenWithin, given_at, no_given}
use Rattle.graph_theory.specs.declared.odd_set.OddSet.{OddSet}
use Rattle.weighted_graph.specs.Grouped.{items_of}
use Rattle.dual_check.specs.Shared.{is_held, HoldsTaken}
use Rattle.dual_check.proofs.HolderLemmas.{taken_next, members_within}
use Rattle.dual_check.proofs.holders.taken_members.Goals.{then-taken-k+in_ok-add_members, else-taken-k}
use Rattle.dual_check.proofs.holders.taken_members.Goals as goal

pub loop-k-preserved : goal.loop-k-preserved
loop-k-preserved c =
    let k = c.loop-k.k in
    let s = c.index-sets-k.result in
    let sets = c.args.sets.now in
    let old = c.loop-k.entries.items in
    let new = c.if-taken-k.entries.items in
    let here : s ≡ given_at sets k =
    get_or_read sets k s c.loop-k-test.true c.index-sets-k.is no_given in
    let names : (s : OddSet) → s ≡ given_at sets k → s.vertices ≡ (given_at sets k).vertices =
    λ s is. ap (λ (z : OddSet). z.vertices) is in
    let is : (v : ℕ) → items_of new v ≡ cond (is_held sets c.args.taken.now v k) (items_of old v ++ k ∷ []) (items_of old v) = λ v.
    elim c.if-taken-k.branch [
      | then-taken-k+in_ok-add_members w ↦
          ap (λ M. items_of M.items v) w.entries-is ∙ w.in_ok-add_members.ensures.lists v ∙ ap (λ (ms : List ℕ). cond (holds ms v) (items_of old v ++ k ∷ []) (items_of old v))
          (w.as_slice.ensures ∙ names s here) ∙ sym (ap (λ t. cond (t && holds (given_at sets k).vertices v) (items_of old v ++ k ∷ []) (items_of old v)) w.if-taken-k.true)
      | else-taken-k w ↦
          ap (λ M. items_of M.items v) w.entries-is ∙ sym (ap (λ t. cond (t && holds (given_at sets k).vertices v) (items_of old v ++ k ∷ []) (items_of old v)) w.if-taken-k.false)
    ] in
    let within : (n : ℕ) → All (IsGivenWithin n) sets → All (λ (e : ℕ × ℕ). e.0 ≤ n) new = λ n all.
    elim c.if-taken-k.branch [
      | then-taken-k+in_ok-add_members w ↦
          let high = subst (λ (ms : List ℕ). All (λ m. m ≤ n) ms) (sym (w.as_slice.ensures ∙ names s here)) (members_within n sets k c.loop-k-test.true all) in
          subst (λ M. All (λ (e : ℕ × ℕ). e.0 ≤ n) M.items) (sym w.entries-is) (w.in_ok-add_members.ensures.within n high (c.loop-k.invariant.within n all))
      | else-taken-k w ↦ subst (λ M. All (λ (e : ℕ × ℕ). e.0 ≤ n) M.items) (sym w.entries-is)
          (c.loop-k.invariant.within n all)
    ] in
    record {
      within = within;
      holders = λ v. taken_next sets c.args.taken.now v k (items_of old v) (items_of new v) (is v) (c.loop-k.invariant.holders v);
    }

pub returns-clause-holders : goal.returns-clause-holders
returns-clause-holders c = λ v.
    let sets = c.args.sets.now in
    let all : c.loop-k.k ≡ length sets = omega (arith, c.loop-k-test.false, c.loop-k.auto.k-end) in
    subst (λ (k : ℕ). HoldsTaken sets c.args.taken.now v k (items_of c.loop-k.entries.items v)) all (c.loop-k.invariant.holders v)
