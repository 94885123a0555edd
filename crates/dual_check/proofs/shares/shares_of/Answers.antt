use Rattle.graph_theory.proofs.Common.{arith, to_z, of_z, ◌≡◌, ◌∙◌, ap, sym, subst, ℕ, ℤ, ◌+ℤ◌, pos, cond, List, get_or, length, ints, get_or_read, with_items_is}
use Rattle.graph_theory.proofs.Common.{with_items, holds, IsNumber, given_at, no_given, int_sum_to-more, ◌<◌, rules, All, IsStrictlyIncreasing, IsGivenWithin, int_sum_to}
use Rattle.graph_theory.proofs.Common.{refl, length-replicate}
use Rattle.graph_theory.proofs.Members.{everywhere}
use Rattle.graph_theory.specs.declared.odd_set.OddSet.{OddSet}
use Rattle.std.proofs.Common.{w64}
use Rattle.dual_check.specs.Crossed.{total_at}
use Rattle.dual_check.specs.Shared.{set_dual, dual_with}
use Rattle.dual_check.proofs.ListFaults.{at_place}
use Rattle.dual_check.proofs.ShareLemmas.{sum-within, sum-small, listed_dual, listed_with}
use Rattle.dual_check.proofs.shares.shares_of.Goals as goal

pub loop-number-init : goal.loop-number-init
loop-number-init c =
    let zeros = c.in_ok-with_vertex.ensures.items_if_clones_equal (λ y h. h) in
    record { size = ap length zeros ∙ length-replicate _ _; whole = refl; exact = λ v. ap (λ (m : List ℤ). total_at m v) zeros ∙ everywhere (pos 0) _ v }

pub overflow_add-whole : goal.overflow_add-whole
overflow_add-whole c =
    let i = c.loop-number.number-index in
    let sets = c.args.sets.now in
    let list = c.args.list.now in
    let r = sum-within (λ a. set_dual sets (get_or list a 0)) i (λ a b. listed_dual sets list a c.requires.numbers c.requires.list (omega arith)) in
    let s = c.index-sets-number.result in
    let here : s ≡ given_at sets (get_or list i 0) = get_or_read sets (get_or list i 0) s (c.requires.list i 0 (omega arith)) c.index-sets-number.is no_given in
    let small : IsNumber s.dual = subst (λ (z : OddSet). IsNumber z.dual) (sym here) (listed_dual sets list i c.requires.numbers c.requires.list (omega arith)) in
    omega (arith, ints, r.0, r.1, c.loop-number.invariant.whole, c.loop-number.whole-is, small.0, small.1, c.from-whole.ensures)

pub share-requires : goal.share-requires
share-requires c =
    let sets = c.args.sets.now in
    let list = c.args.list.now in
    let i = c.loop-number.number-index in
    let below = c.requires.list i 0 c.loop-number-test.true in
    let own = at_place (IsGivenWithin c.args.vertices) sets (get_or list i 0) c.index-sets-number.result c.requires.within below c.index-sets-number.is in
    let same : to_z w64 (of_z w64 c.index-sets-number.result.dual) ≡ c.index-sets-number.result.dual = search rules in
    record {
      in_range = subst (λ (vs : List ℕ). All (λ v. v < length c.deref_mut.result.now) vs) (sym c.as_slice.ensures)
          (λ k d b. (let r = own.in_range k d b in omega (arith, r.1, ap length c.deref_mut.ensures.value ∙ c.loop-number.invariant.size)));
      ascending = subst IsStrictlyIncreasing (sym c.as_slice.ensures)
          (at_place (λ s. IsStrictlyIncreasing s.vertices) sets (get_or list i 0) c.index-sets-number.result c.requires.forms below c.index-sets-number.is);
      value_limit = λ v.
          let r = sum-within (λ a. dual_with sets v (get_or list a 0)) i (λ a b. listed_with sets list v a c.requires.numbers c.requires.list (omega arith)) in
          sum-small i _ _ (omega arith) (ap (λ (m : List ℤ). total_at m v) c.deref_mut.ensures.value ∙ c.loop-number.invariant.exact v) r;
      dual = subst IsNumber (sym same) (at_place (λ s. IsNumber s.dual) sets (get_or list i 0) c.index-sets-number.result c.requires.numbers below c.index-sets-number.is);
    }

pub loop-number-preserved : goal.loop-number-preserved
loop-number-preserved c =
    let i = c.loop-number.number-index in
    let sets = c.args.sets.now in
    let list = c.args.list.now in
    let j = get_or list i 0 in
    let s = c.index-sets-number.result in
    let here : s ≡ given_at sets j = get_or_read sets j s (c.requires.list i 0 (omega arith)) c.index-sets-number.is no_given in
    let dual : s.dual ≡ set_dual sets j = ap (λ (z : OddSet). z.dual) here in
    let small : IsNumber (set_dual sets j) = listed_dual sets list i c.requires.numbers c.requires.list (omega arith) in
    let r = sum-within (λ a. set_dual sets (get_or list a 0)) i (λ a b. listed_dual sets list a c.requires.numbers c.requires.list (omega arith)) in
    let more = int_sum_to-more (λ a. set_dual sets (get_or list a 0)) i in
    let long = c.share.auto.totals ∙ ap length c.deref_mut.ensures.value in
    let totals : (with_items c.loop-number.with_vertex c.share.new.totals).items ≡ c.share.new.totals = with_items_is c.loop-number.with_vertex c.share.new.totals (long
    ∙ sym c.loop-number.with_vertex.ok.0) in
    let same : to_z w64 (of_z w64 s.dual) ≡ set_dual sets j = omega (arith, ints, small.0, small.1, dual) in
    record {
      size = ap length totals ∙ long ∙ c.loop-number.invariant.size;
      whole = omega (arith, ints, r.0, r.1, c.loop-number.invariant.whole, c.loop-number.whole-is, small.0, small.1, c.from-whole.ensures, dual, more);
      exact = λ v.
          let members = ap (λ (xs : List ℕ). holds xs v) (c.as_slice.ensures ∙ ap (λ (z : OddSet). z.vertices) here) in
          ap (λ (m : List ℤ). total_at m v) totals ∙ c.share.ensures v ∙ ap (λ t. total_at c.deref_mut.result.now v +ℤ cond t (to_z w64 (of_z w64 s.dual)) (pos 0)) members
          ∙ ap (λ (z : ℤ). total_at c.deref_mut.result.now v +ℤ cond (holds (given_at sets j).vertices v) z (pos 0)) same
          ∙ ap (λ (z : ℤ). z +ℤ dual_with sets v j) (ap (λ (m : List ℤ). total_at m v) c.deref_mut.ensures.value ∙ c.loop-number.invariant.exact v)
          ∙ sym (int_sum_to-more (λ a. dual_with sets v (get_or list a 0)) i);
    }

pub bounds-sets-number : goal.bounds-sets-number
bounds-sets-number c = c.requires.list c.loop-number.number-index 0 c.loop-number-test.true

pub returns : goal.returns
returns c =
    let i = c.loop-number.invariant in
    let xs = c.args.list.now in
    let all : c.loop-number.number-index ≡ length xs = omega (arith, c.loop-number-test.false, c.loop-number.auto.number-index-end) in
    record {
      size = i.size;
      whole = i.whole ∙ ap (int_sum_to (λ a. set_dual c.args.sets.now (get_or xs a 0))) all;
      exact = λ v. i.exact v ∙ ap (int_sum_to (λ a. dual_with c.args.sets.now v (get_or xs a 0))) all;
    }
