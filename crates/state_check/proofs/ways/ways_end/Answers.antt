use Rattle.alt_forest.proofs.Common.{refl, arith, outer_range}
use Rattle.state_check.proofs.ways.ways_end.Goals as goal

pub returns : goal.returns
returns c = (
  λ e a is. let range = outer_range c.args.search.now a c.requires.shape is in c.loop-number.invariant a range.0
      (omega (arith, range.1, c.node_limit-number-end.ensures.limit, c.requires.shape.arena)) is,
  λ _. refl,
)
