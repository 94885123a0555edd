use Rattle.graph_theory.proofs.Common.{ap, ◌∙◌, take_all}
use Rattle.gadget_interval.specs.Halves.{listed_after}
use Rattle.gadget_interval.proofs.lighter.edges_after.Goals as goal

pub returns : goal.returns
returns c = c.loop-edge.invariant ∙ ap (listed_after c.args.before c.args.count) (take_all c.loop-edge.edge-index c.args.edges.now c.loop-edge-test.false)
