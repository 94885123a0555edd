use Rattle.alt_forest.proofs.Common.{◌≡◌, ap, arith, ends_around}
use Rattle.augment.proofs.tree_sizes.left_of.Goals as goal

pub returns : goal.returns
returns c x is =
    let same : c.loop-v.left ≡ x = cc in
    omega (arith, same, c.loop-v.invariant.left, ap (ends_around c.args.search.now.graph) c.in-None.ensures.steps.0)
