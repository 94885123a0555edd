use Rattle.graph_theory.proofs.Common.{ℕ, ◌+◌, List, length, ap, ◌∙◌, arith, take_all}
use Rattle.gadget_base.specs.Listed.{times}
use Rattle.gadget_base.proofs.Blocks.{is-tabled}
use Rattle.gadget_base.proofs.plain.add_listed.Goals as goal

pub add_one-requires-clause-high : goal.add_one-requires-clause-high
add_one-requires-clause-high c = omega (arith, (c.requires.numbers c.loop-edge.edge-index c.edge-item.result c.loop-edge-test.true).1, c.edge-item.is, c.loop-edge.invariant.size)

pub returns : goal.returns
returns c = is-tabled c.loop-edge.counts (λ k. times c.args.edges.now (k + 1)) (length c.args.counts.now) c.loop-edge.invariant.size
    (λ k b. c.loop-edge.invariant.each k b ∙ ap (λ (es : List ℕ). times es (k + 1)) (take_all c.loop-edge.edge-index c.args.edges.now c.loop-edge-test.false))
