use Rattle.graph_theory.proofs.Common.{arith, ◌∙◌, ap, ◌-ℤ◌, number_at}
use Rattle.dual_check.specs.Crossed.{total_at}
use Rattle.dual_check.specs.Shared.{unshared_at}
use Rattle.dual_check.proofs.ShareLemmas.{read_whole, read_within}
use Rattle.dual_check.proofs.AddLemmas.{ascend, edge_there, given_all, given_next}
use Rattle.dual_check.proofs.shares.add_unshared.Goals as goal

pub other_end-far-requires : goal.other_end-far-requires
other_end-far-requires c =
    (number_at c.args.graph.now c.args.vertex c.args.numbers.now c.loop-number.number-index c.number-item.result c.requires.numbers c.loop-number-test.true c.number-item.is).0

pub add_to-requires : goal.add_to-requires
add_to-requires c =
    let there = edge_there c.args.graph.now c.args.vertex c.args.numbers.now (unshared_at c.args.graph.now c.args.shares.now c.args.vertex) c.args.totals.now c.loop-number.totals
    c.requires.numbers c.loop-number.number-index c.number-item.result c.number.result c.loop-number-test.true c.number-item.is c.number.ensures c.requires.size c.requires.value_limit
    c.loop-number.invariant in
    record { in_range = there.0; value_limit = there.1; more = read_within c.without.result c.without.ensures.value_limit }

pub loop-number-preserved : goal.loop-number-preserved
loop-number-preserved c =
    let shares = c.args.shares.now in
    given_next c.args.numbers.now c.loop-number.number-index c.number-item.result c.number.result (unshared_at c.args.graph.now shares c.args.vertex) c.args.totals.now
    c.loop-number.totals (ascend c.args.graph.now c.args.vertex c.args.numbers.now c.requires.numbers) c.loop-number-test.true c.number-item.is c.number.ensures c.loop-number.invariant _ _
    (read_whole c.without.result c.without.ensures.value_limit ∙ c.without.ensures.exact
    ∙ ap (λ w. shares.whole -ℤ total_at shares.with_vertex.items w) c.other_end-far.ensures.end) c.add_to.ensures.size c.add_to.ensures.exact

pub returns : goal.returns
returns c = given_all c.args.graph.now c.args.vertex c.args.numbers.now (unshared_at c.args.graph.now c.args.shares.now c.args.vertex) c.args.totals.now c.loop-number.totals
    c.requires.numbers c.loop-number.number-index (omega arith) c.loop-number.invariant

pub without-requires-clause-with_vertex : goal.without-requires-clause-with_vertex
without-requires-clause-with_vertex c = c.requires.with_vertex c.other_end-far.result
