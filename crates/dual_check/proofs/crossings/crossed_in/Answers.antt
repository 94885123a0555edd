use Rattle.graph_theory.proofs.Common.{arith, rules, ◌≡◌, ◌∙◌, ◌<◌, ap, ap₂, sym, ℕ, ℤ, ◌+ℤ◌, List, [], length, ints, with_items_is, with_items, int_sum_to}
use Rattle.graph_theory.proofs.Common.{edge_of, given_at, subst, no_given, All-from_get_or, IsStrictlyIncreasing}
use Rattle.dual_check.specs.Crossed.{total_at}
use Rattle.dual_check.specs.Forests.{nested_dual, AreAlone}
use Rattle.dual_check.specs.Shared.{crossed_at, taken_dual}
use Rattle.dual_check.proofs.GivenLemmas.{crossed_listed, none_nested}
use Rattle.dual_check.proofs.ShareLemmas.{sum-small}
use Rattle.dual_check.proofs.TakenLemmas.{taken-within}
use Rattle.dual_check.proofs.crossings.crossed_in.Goals as goal

pub returns-then-not-refers : goal.returns-then-not-refers
returns-then-not-refers c =
    let sets = c.args.sets.now in
    let none : (j : ℕ) → j < length sets → (given_at sets j).references ≡ [] = c.refers.ensures (search rules) in
    record {
      totals = record {
        size = c.in_ok-totals.ensures.size;
        exact = λ e b.
            let edge = edge_of c.args.graph.now e in
            let nested = none_nested c.args.graph.now.vertices sets c.in_ok-flags.flags.items edge c.in_ok-flags.ensures none in
            let whole = crossed_listed c.args.graph.now.vertices sets c.in_ok-flags.flags.items edge c.requires.earlier c.requires.forms c.requires.within c.in_ok-flags.ensures in
            omega (arith, ints, c.in_ok-totals.ensures.totals e b ∙ ap (λ t. crossed_at sets (taken_dual sets t) (length sets) edge) c.deref.ensures.value, nested, whole);
      };
    }

pub returns : goal.returns
returns c =
    let sets = c.args.sets.now in
    let long = c.in_ok-add_trees.ensures.size ∙ ap length c.deref_mut.ensures.value in
    let totals : (with_items c.in_ok-totals.totals c.add_trees.new.totals).items ≡ c.add_trees.new.totals = with_items_is c.in_ok-totals.totals c.add_trees.new.totals (long
    ∙ sym c.in_ok-totals.totals.ok.0) in
    record {
      totals = record {
        size = ap length totals ∙ long ∙ c.in_ok-totals.ensures.size;
        exact = λ e b.
            let edge = edge_of c.args.graph.now e in
            let alone = ap (λ (m : List ℤ). total_at m e) c.deref_mut.ensures.value ∙ c.in_ok-totals.ensures.totals e b
            ∙ ap (λ t. crossed_at sets (taken_dual sets t) (length sets) edge) c.deref.ensures.value in
            let nested = ap (λ t. int_sum_to (nested_dual c.args.graph.now.vertices sets t edge) (length sets)) c.deref-2.ensures.value in
            ap (λ (m : List ℤ). total_at m e) totals ∙ c.in_ok-add_trees.ensures.exact e b ∙ ap₂ (λ p q. p +ℤ q) alone nested
            ∙ sym (crossed_listed c.args.graph.now.vertices sets c.in_ok-flags.flags.items edge c.requires.earlier c.requires.forms c.requires.within c.in_ok-flags.ensures);
      };
    }

pub crossed_alone-requires-clause-one_each : goal.crossed_alone-requires-clause-one_each
crossed_alone-requires-clause-one_each c = ap length c.deref.ensures.value ∙ c.in_ok-flags.ensures.one_each

pub crossed_alone-requires-clause-forms : goal.crossed_alone-requires-clause-forms
crossed_alone-requires-clause-forms c = All-from_get_or (λ s. IsStrictlyIncreasing s.vertices) c.args.sets.now no_given (λ j below. (c.requires.forms j below).vertices)

pub add_trees-requires : goal.add_trees-requires
add_trees-requires c = record {
  index = c.requires.index;
  loopless = c.requires.loopless;
  numbers = c.requires.numbers;
  within = c.requires.within;
  earlier = c.requires.earlier;
  forms = c.requires.forms;
  alone = subst (AreAlone c.args.sets.now) (sym c.deref-2.ensures.value) c.in_ok-flags.ensures;
  size = ap length c.deref_mut.ensures.value ∙ c.in_ok-totals.ensures.size;
  value_limit = λ e b.
      let r = taken-within c.args.sets.now c.deref.result.now (length c.args.sets.now) (edge_of c.args.graph.now e) (omega arith) c.requires.numbers in
      sum-small (length c.args.sets.now) _ _ (omega arith) (ap (λ (m : List ℤ). total_at m e) c.deref_mut.ensures.value ∙ c.in_ok-totals.ensures.totals e b) r;
}
