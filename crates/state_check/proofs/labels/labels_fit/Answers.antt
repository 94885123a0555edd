use Rattle.alt_forest.proofs.Common.{◌≤◌, refl, arith, IsOutermost, state_of, outer_range}
use Rattle.state_check.specs.Checks.{FitsHere}
use Rattle.state_check.proofs.Checked.{one_further}
use Rattle.state_check.proofs.labels.labels_fit.Goals as goal

pub returns : goal.returns
returns c = (
  λ e a is. let range = outer_range c.args.search.now a c.requires.shape is in c.loop-number.invariant a range.0
      (omega (arith, range.1, c.node_limit-number-end.ensures.limit, c.requires.shape.arena)) is,
  λ _. refl,
)

pub loop-number-preserved : goal.loop-number-preserved
loop-number-preserved c = λ a low below is.
    one_further (λ x. 1 ≤ x → IsOutermost (state_of c.args.search.now) x → FitsHere (state_of c.args.search.now) x) c.loop-number.number
    (λ _. c.label_fits.ensures.0 c.if-not-label_fits.false) (λ x before first. c.loop-number.invariant x first before) a below low is
