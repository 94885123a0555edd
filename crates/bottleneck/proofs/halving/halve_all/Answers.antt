use Rattle.mb_problem.proofs.Common.{refl, arith, ◌+◌, ◌-◌, ◌/◌}
use Rattle.mwpm_engine.specs.Solutions.{most_steps, size_of_graph}
use Rattle.bottleneck.proofs.Ranges.{halving_start, halving_more, halving_once}
use Rattle.bottleneck.proofs.halving.halve_all.Goals as goal

pub loop-range-init : goal.loop-range-init
loop-range-init g c =
    halving_start c.args.graph.now c.args.weights.now c.args.range.now c.args.steps.now (most_steps (size_of_graph c.args.graph.now)) c.requires.range c.requires.value_limit

pub loop-range-preserved : goal.loop-range-preserved
loop-range-preserved g c =
    let once = c.in_ok-narrow_at.ensures in
    let r = c.loop-range.range in
    halving_more c.args.graph.now c.args.weights.now r c.narrow_at.new.range (r.low + (r.high - r.low) / 2) c.args.steps.now c.loop-range.steps c.narrow_at.new.steps
    (most_steps (size_of_graph c.args.graph.now)) c.loop-range.invariant c.loop-range-test.true refl once.narrowed once.steps

pub returns-in_err-narrow_at-clause-steps : goal.returns-in_err-narrow_at-clause-steps
returns-in_err-narrow_at-clause-steps g c =
    halving_once c.args.graph.now c.args.weights.now c.loop-range.range c.args.steps.now c.loop-range.steps c.narrow_at.new.steps
    (most_steps (size_of_graph c.args.graph.now)) c.loop-range.invariant c.loop-range-test.true c.in_err-narrow_at.ensures.steps

pub returns : goal.returns
returns g c =
    let is = c.loop-range.invariant in
    record { range = is.range; one = omega (arith, is.range.order, c.loop-range-test.false); steps = omega (arith, is.paid) }
