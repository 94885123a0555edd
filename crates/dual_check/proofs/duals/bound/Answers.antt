use Rattle.graph_theory.proofs.Common.{ℕ, All, subst, sym, IsGivenWithin, arith, rules, ints, AreDuals, HaveItemForm, listed_sets, weak_duality}
use Rattle.dual_check.specs.Crossed.{AreCrossed}
use Rattle.dual_check.proofs.FormLaw.{listed-forms, listed-within}
use Rattle.dual_check.proofs.GivenLemmas.{listed-total}
use Rattle.dual_check.proofs.duals.bound.Goals as goal

pub first_set_fault-requires-clause-within : goal.first_set_fault-requires-clause-within
first_set_fault-requires-clause-within c = subst (λ (n : ℕ). All (IsGivenWithin n) c.args.sets.now) (sym c.vertices.ensures.count) c.requires.sets_within

pub crossed_all-requires : goal.crossed_all-requires
crossed_all-requires c = record { numbers = c.requires.set_numbers; within = c.requires.sets_within; earlier = c.requires.earlier; forms = search rules; loopless = c.requires.loopless }

pub first_slack_fault-requires : goal.first_slack_fault-requires
first_slack_fault-requires c =
    let totals = subst (AreCrossed c.args.graph.now c.args.sets.now) (sym c.deref.ensures.value) c.in_ok-totals.ensures.totals in
    record { one_each = c.requires.one_each; y_numbers = c.requires.y_numbers; set_numbers = c.requires.set_numbers; forms = search rules; totals = totals }

pub set_total-requires : goal.set_total-requires
set_total-requires c = c.requires.set_numbers

pub vertex_total-requires : goal.vertex_total-requires
vertex_total-requires c = c.requires.y_numbers

pub overflow_add-result : goal.overflow_add-result
overflow_add-result c = omega (arith, ints)

pub returns-clause-value : goal.returns-clause-value
returns-clause-value c = let total = listed-total c.args.graph.now.vertices c.args.sets.now in omega (arith, ints, total)

pub returns-clause-duals : goal.returns-clause-duals
returns-clause-duals c =
    let forms : HaveItemForm c.args.sets.now = search rules in
    record {
      one_each = c.requires.one_each;
      sets_within = listed-within c.args.graph.now.vertices c.args.sets.now c.requires.sets_within;
      forms = listed-forms c.args.graph.now.vertices c.args.sets.now c.requires.earlier forms c.requires.sets_within;
      slacks = c.in_default-first_slack_fault.ensures.slacks;
    }

pub returns-clause-below : goal.returns-clause-below
returns-clause-below c = λ counts perfect.
    let n = c.args.graph.now.vertices in
    let sets = c.args.sets.now in
    let forms : HaveItemForm sets = search rules in
    let duals : AreDuals c.args.graph.now c.args.y.now (listed_sets n sets) = record {
      one_each = c.requires.one_each;
      sets_within = listed-within n sets c.requires.sets_within;
      forms = listed-forms n sets c.requires.earlier forms c.requires.sets_within;
      slacks = c.in_default-first_slack_fault.ensures.slacks;
    } in
    omega (arith, ints, listed-total n sets, weak_duality c.args.graph.now c.args.y.now (listed_sets n sets) counts c.in_default-first_slack_fault.ensures.graph duals perfect)

pub returns-in-Some-first_slack_fault-clause-fault : goal.returns-in-Some-first_slack_fault-clause-fault
returns-in-Some-first_slack_fault-clause-fault c = c.in-Some-first_slack_fault.ensures.slacks
