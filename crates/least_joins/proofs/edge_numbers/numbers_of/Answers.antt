use Rattle.graph_theory.proofs.Common.{◌-◌, ap, ◌∙◌, map, slice_index, take_all}
use Rattle.graph_theory.proofs.MappedLists.{numbered-more}
use Rattle.least_joins.proofs.edge_numbers.numbers_of.Goals as goal

pub loop-edge-preserved : goal.loop-edge-preserved
loop-edge-preserved c =
    numbered-more c.args.numbers.now c.args.edges.now c.loop-edge.edge-index _ _ _ _ _ c.requires.edges c.loop-edge-test.true c.loop-edge.invariant c.edge-item.is
    c.number.ensures c.index-numbers-number.is c.in_ok-push.ensures.items

pub returns : goal.returns
returns c =
    c.loop-edge.invariant ∙ ap (map (λ e. slice_index c.args.numbers.now (e - 1))) (take_all c.loop-edge.edge-index c.args.edges.now c.loop-edge-test.false)
