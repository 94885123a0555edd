use Rattle.alt_forest.proofs.Common.{◌≡◌, sym, subst, rules, to_z, of_z, w128, CanAugment, CanGrow, CanShrink, state_of}
use Rattle.dual_change.specs.Changes.{applied}
use Rattle.search_tests.proofs.tests.events.reach.Goals as goal

pub change-requires-clause-leads : goal.change-requires-clause-leads
change-requires-clause-leads g c =
    let back : to_z w128 (of_z w128 c.in-Grow.d) ≡ c.in-Grow.d = search rules in
    subst (λ d. CanGrow (applied (state_of c.find.new.search) d) c.in-Grow.e) (sym back) c.in-Grow.ensures.found.possible

pub change-requires-in-Shrink-clause-leads : goal.change-requires-in-Shrink-clause-leads
change-requires-in-Shrink-clause-leads g c =
    let back : to_z w128 (of_z w128 c.in-Shrink.d) ≡ c.in-Shrink.d = search rules in
    subst (λ d. CanShrink (applied (state_of c.find.new.search) d) c.in-Shrink.e) (sym back) c.in-Shrink.ensures.found.possible

pub change-requires-in-Augment-clause-leads : goal.change-requires-in-Augment-clause-leads
change-requires-in-Augment-clause-leads g c =
    let back : to_z w128 (of_z w128 c.in-Augment.d) ≡ c.in-Augment.d = search rules in
    subst (λ d. CanAugment (applied (state_of c.find.new.search) d) c.in-Augment.e) (sym back) c.in-Augment.ensures.found.possible
