use Rattle.graph_theory.proofs.Common.{arith, ◌≡◌, ◌∙◌, ◌<◌, ◌||◌, ap, ap₂, sym, not, ℕ, ℤ, ◌+ℤ◌, Bool, List, length, with_items_is, with_items}
use Rattle.graph_theory.proofs.Common.{edge_of, subst, All, IsGivenWithin}
use Rattle.graph_parts.specs.Marks.{is_marked}
use Rattle.dual_check.specs.Crossed.{total_at}
use Rattle.dual_check.specs.Shared.{crossed_at, other_dual, taken_dual, IsHolders}
use Rattle.dual_check.proofs.ShareLemmas.{sum-small}
use Rattle.dual_check.proofs.TakenLemmas.{others-within, crossed_parted}
use Rattle.dual_check.proofs.crossings.crossed_alone.Goals as goal

pub add_others-requires : goal.add_others-requires
add_others-requires c =
    let one_each = ap length c.deref-2.ensures.value ∙ c.in_ok-left.ensures.size ∙ c.requires.one_each in
    record { index = c.requires.index; numbers = c.requires.numbers; within = c.requires.within; forms = c.requires.forms; one_each = one_each }

pub holders_of-requires : goal.holders_of-requires
holders_of-requires c = record {
  within = subst (λ (n : ℕ). All (IsGivenWithin n) c.args.sets.now) (sym c.vertices.ensures.count) c.requires.within;
  forms = c.requires.forms;
  one_each = ap length c.deref-3.ensures.value ∙ c.in_ok-narrow.ensures.size;
  numbered = λ k marked. c.in_ok-narrow.ensures.numbered k (ap (λ (t : List Bool). is_marked t k) (sym c.deref-3.ensures.value) ∙ marked);
}

pub add_taken-requires : goal.add_taken-requires
add_taken-requires c = record {
  index = c.requires.index;
  loopless = c.requires.loopless;
  numbers = c.requires.numbers;
  within = c.requires.within;
  forms = c.requires.forms;
  holders = subst (λ (t : List Bool). IsHolders c.args.graph.now.vertices c.args.sets.now t c.in_ok-holders.holders) (c.deref-3.ensures.value ∙ sym c.deref-4.ensures.value)
      (subst (λ (n : ℕ). IsHolders n c.args.sets.now c.deref-3.result.now c.in_ok-holders.holders) c.vertices.ensures.count c.in_ok-holders.ensures);
  size = ap length c.deref_mut.ensures.value ∙ c.in_ok-totals.ensures.size;
  value_limit = λ e b.
      let r = others-within c.args.sets.now c.deref-2.result.now (length c.args.sets.now) (edge_of c.args.graph.now e) (omega arith) c.requires.numbers in
      sum-small (length c.args.sets.now) _ _ (omega arith) (ap (λ (m : List ℤ). total_at m e) c.deref_mut.ensures.value ∙ c.in_ok-totals.ensures.totals e b) r;
}

pub returns-clause-totals : goal.returns-clause-totals
returns-clause-totals c = λ e b.
    let sets = c.args.sets.now in
    let alone = c.args.alone.now in
    let edge = edge_of c.args.graph.now e in
    let long = c.in_ok-add_taken.ensures.size ∙ ap length c.deref_mut.ensures.value in
    let totals : (with_items c.in_ok-totals.totals c.add_taken.new.totals).items ≡ c.add_taken.new.totals = with_items_is c.in_ok-totals.totals c.add_taken.new.totals (long
    ∙ sym c.in_ok-totals.totals.ok.0) in
    let others = ap (λ (m : List ℤ). total_at m e) c.deref_mut.ensures.value ∙ c.in_ok-totals.ensures.totals e b
    ∙ ap (λ (t : List Bool). crossed_at sets (other_dual sets t) (length sets) edge) c.deref-2.ensures.value in
    let taken = ap (λ (t : List Bool). crossed_at sets (taken_dual sets t) (length sets) edge) c.deref-4.ensures.value in
    let flags : (j : ℕ) → j < length sets → is_marked c.in_ok-left.left.items j ≡ (is_marked c.in_ok-narrow.narrow.items j || not (is_marked alone j)) = λ j less.
    c.in_ok-left.ensures.flags j (omega (arith, less, c.requires.one_each)) ∙ ap (λ (t : List Bool). is_marked t j || not (is_marked alone j)) c.deref.ensures.value in
    ap (λ (m : List ℤ). total_at m e) totals ∙ c.in_ok-add_taken.ensures.exact e b ∙ ap₂ (λ p q. p +ℤ q) others taken
    ∙ sym (crossed_parted sets alone c.in_ok-narrow.narrow.items c.in_ok-left.left.items (length sets) edge c.in_ok-narrow.ensures.alone flags)

pub left_out-requires : goal.left_out-requires
left_out-requires c = record { one_each = ap length c.deref.ensures.value ∙ c.in_ok-narrow.ensures.size ∙ sym c.requires.one_each }

pub returns-clause-size : goal.returns-clause-size
returns-clause-size c =
    let long = c.in_ok-add_taken.ensures.size ∙ ap length c.deref_mut.ensures.value in
    ap length (with_items_is c.in_ok-totals.totals c.add_taken.new.totals (long ∙ sym c.in_ok-totals.totals.ok.0)) ∙ long ∙ c.in_ok-totals.ensures.size
