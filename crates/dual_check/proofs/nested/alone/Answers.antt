use Rattle.graph_theory.proofs.Common.{◌≡◌, ◌∙◌, sym, ap, subst, arith, ℕ, ◌≤◌, ◌&&◌, ◌||◌, ◌+◌, not, eqb, Bool, List, length, All, get_or_read}
use Rattle.graph_theory.proofs.Common.{with_items_is, All-weaker, with_items, holds, given_at, no_given}
use Rattle.graph_theory.specs.declared.odd_set.OddSet.{OddSet}
use Rattle.graph_parts.specs.Marks.{is_marked}
use Rattle.dual_check.proofs.LoneLemmas.{alone_next}
use Rattle.dual_check.proofs.nested.alone.Goals as goal

pub drop_flags-requires : goal.drop_flags-requires
drop_flags-requires c =
    let sets = c.args.sets.now in
    let k = c.loop-k.k in
    let here : c.index-sets-k.result ≡ given_at sets k = get_or_read sets k c.index-sets-k.result c.loop-k-test.true c.index-sets-k.is no_given in
    let refs : c.as_slice.result.now ≡ (given_at sets k).references = c.as_slice.ensures ∙ ap (λ (s : OddSet). s.references) here in
    let long : length c.deref_mut.result.now ≡ length sets = ap length c.deref_mut.ensures.value ∙ c.loop-k.invariant.size in
    record {
      set = omega (arith, long, c.loop-k-test.true);
      in_range = subst (λ (rs : List ℕ). All (λ r. (1 ≤ r) × (r ≤ length c.deref_mut.result.now)) rs) (sym refs)
          (All-weaker (λ r. (1 ≤ r) × (r ≤ k)) (λ r. (1 ≤ r) × (r ≤ length c.deref_mut.result.now))
          (λ (r : ℕ) (e : (1 ≤ r) × (r ≤ k)). (e.0, omega (arith, long, e.1, c.loop-k-test.true))) (given_at sets k).references (c.requires.earlier k c.loop-k-test.true));
    }

pub loop-k-preserved : goal.loop-k-preserved
loop-k-preserved c =
    let sets = c.args.sets.now in
    let k = c.loop-k.k in
    let here : c.index-sets-k.result ≡ given_at sets k = get_or_read sets k c.index-sets-k.result c.loop-k-test.true c.index-sets-k.is no_given in
    let rs = c.as_slice.result.now in
    let new = c.drop_flags.new.flags in
    let long : length new ≡ length c.loop-k.flags.items = c.drop_flags.ensures.size ∙ ap length c.deref_mut.ensures.value in
    let flags : (with_items c.loop-k.flags new).items ≡ new = with_items_is c.loop-k.flags new (long ∙ sym c.loop-k.flags.ok.0) in
    record {
      size = ap length flags ∙ long ∙ c.loop-k.invariant.size;
      exact = λ j b. alone_next sets k j (is_marked c.loop-k.flags.items j) _ rs (c.as_slice.ensures ∙ ap (λ (s : OddSet). s.references) here)
          (ap (λ (m : List Bool). is_marked m j) flags ∙ c.drop_flags.ensures.exact j
          ∙ ap (λ (m : List Bool). (is_marked m j && not (holds rs (j + 1))) && (not (eqb k j) || eqb (length rs) 0)) c.deref_mut.ensures.value) (c.loop-k.invariant.exact j b);
    }

pub returns : goal.returns
returns c =
    let last : c.loop-k.k ≡ length c.args.sets.now = omega (arith, c.loop-k-test.false, c.loop-k.auto.k-end) in
    record {
      one_each = c.loop-k.invariant.size;
      alone = λ j b.
          let so = c.loop-k.invariant.exact j b in (
            λ on. let to = so.0 on in record { no_references = to.own (omega (arith, last, b)); none_refers = λ i d. to.none_refers i (omega (arith, last, d)) },
            λ alone. so.1 (record { own = λ _. alone.no_references; none_refers = λ i d. alone.none_refers i (omega (arith, last, d)) }),
          );
    }
