use Rattle.graph_theory.proofs.Common.{arith, ap, ◌∙◌, number_at}
use Rattle.dual_check.specs.NestedTotals.{apart_at, stand_of, unshared_dual}
use Rattle.dual_check.proofs.ShareLemmas.{read_whole, read_within}
use Rattle.dual_check.proofs.AddLemmas.{ascend, edge_there, given_all, given_next}
use Rattle.dual_check.proofs.nested.add_at.Goals as goal

pub other_end-requires : goal.other_end-requires
other_end-requires c =
    (number_at c.args.graph.now c.args.vertex c.args.numbers.now c.loop-number.number-index c.number-item.result c.requires.numbers c.loop-number-test.true c.number-item.is).0

pub add_to-requires : goal.add_to-requires
add_to-requires c =
    let there = edge_there c.args.graph.now c.args.vertex c.args.numbers.now
    (apart_at c.args.graph.now c.args.sets.now c.args.forest.now c.args.stands.now c.args.begin c.args.q c.args.vertex) c.args.totals.now c.loop-number.totals c.requires.numbers
    c.loop-number.number-index c.number-item.result c.number.result c.loop-number-test.true c.number-item.is c.number.ensures c.requires.size c.requires.value_limit c.loop-number.invariant
    in
    record { in_range = there.0; value_limit = there.1; more = read_within c.unshared-apart.result c.unshared-apart.ensures.value_limit }

pub loop-number-preserved : goal.loop-number-preserved
loop-number-preserved c =
    given_next c.args.numbers.now c.loop-number.number-index c.number-item.result c.number.result
    (apart_at c.args.graph.now c.args.sets.now c.args.forest.now c.args.stands.now c.args.begin c.args.q c.args.vertex) c.args.totals.now c.loop-number.totals
    (ascend c.args.graph.now c.args.vertex c.args.numbers.now c.requires.numbers) c.loop-number-test.true c.number-item.is c.number.ensures c.loop-number.invariant _ _
    (read_whole c.unshared-apart.result c.unshared-apart.ensures.value_limit ∙ c.unshared-apart.ensures.exact
    ∙ ap (λ w. unshared_dual c.args.sets.now c.args.forest.now c.args.begin c.args.q (stand_of c.args.stands.now w))
    (c.number-far.ensures ∙ c.other_end.ensures.end)) c.add_to.ensures.size c.add_to.ensures.exact

pub returns : goal.returns
returns c = given_all c.args.graph.now c.args.vertex c.args.numbers.now _ c.args.totals.now c.loop-number.totals c.requires.numbers c.loop-number.number-index (omega arith)
    c.loop-number.invariant

pub unshared-apart-requires-clause-numbers : goal.unshared-apart-requires-clause-numbers
unshared-apart-requires-clause-numbers c = c.requires.duals

pub unshared-apart-requires-clause-stand : goal.unshared-apart-requires-clause-stand
unshared-apart-requires-clause-stand c = c.requires.stands c.number-far.result
