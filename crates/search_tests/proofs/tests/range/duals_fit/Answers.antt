use Rattle.alt_forest.proofs.Common.{◌≡◌, ◌≤◌, subst, arith, rules, to_z, of_z, w128, IsNumber, IsOutermost, state_of, outer_range}
use Rattle.state_check.proofs.Checked.{one_further}
use Rattle.dual_change.specs.Changes.{applied}
use Rattle.search_tests.proofs.tests.range.duals_fit.Goals as goal

pub loop-number-preserved : goal.loop-number-preserved
loop-number-preserved c = λ a low below is.
    one_further (λ x. 1 ≤ x → IsOutermost (state_of c.args.search.now) x → IsNumber ((applied (state_of c.args.search.now) (to_z w128 (of_z w128 c.args.d))).dual x))
    c.loop-number.number (λ _ here. c.dual_fits.ensures c.if-not-dual_fits.false here) (λ x before first. c.loop-number.invariant x first before) a below low is

pub returns : goal.returns
returns c = λ e a is.
    let back : to_z w128 (of_z w128 c.args.d) ≡ c.args.d = search rules in
    let range = outer_range c.args.search.now a c.requires.sound.shape is in
    subst (λ x. IsNumber ((applied (state_of c.args.search.now) x).dual a)) back
    (c.loop-number.invariant a range.0 (omega (arith, range.1, c.node_limit-number-end.ensures.limit, c.requires.sound.shape.arena)) is)
