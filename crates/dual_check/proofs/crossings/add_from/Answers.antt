use Rattle.graph_theory.proofs.Common.{arith, rules, to_z, of_z, ap, subst, ◌≡◌, ℤ, pos, cond, number_at}
use Rattle.std.proofs.Common.{w64}
use Rattle.graph_parts.specs.Marks.{is_marked}
use Rattle.dual_check.specs.Crossed.{AddsAt, given_out}
use Rattle.dual_check.proofs.AddLemmas.{ascend, edge_there, given_all, given_next}
use Rattle.dual_check.proofs.crossings.add_from.Goals as goal

pub other_end-far-requires : goal.other_end-far-requires
other_end-far-requires c =
    (number_at c.args.graph.now c.args.vertex c.args.numbers.now c.loop-number.number-index c.number-item.result c.requires.numbers c.loop-number-test.true c.number-item.is).0

pub add_unmarked-requires-clause-in_range : goal.add_unmarked-requires-clause-in_range
add_unmarked-requires-clause-in_range c =
    (edge_there c.args.graph.now c.args.vertex c.args.numbers.now (given_out c.args.graph.now c.args.marks.now c.args.vertex (to_z w64 (of_z w64 c.args.dual))) c.args.totals.now
    c.loop-number.totals c.requires.numbers c.loop-number.number-index c.number-item.result c.number.result c.loop-number-test.true c.number-item.is c.number.ensures c.requires.size
    c.requires.value_limit c.loop-number.invariant).0

pub add_unmarked-requires-clause-value_limit : goal.add_unmarked-requires-clause-value_limit
add_unmarked-requires-clause-value_limit c =
    (edge_there c.args.graph.now c.args.vertex c.args.numbers.now (given_out c.args.graph.now c.args.marks.now c.args.vertex (to_z w64 (of_z w64 c.args.dual))) c.args.totals.now
    c.loop-number.totals c.requires.numbers c.loop-number.number-index c.number-item.result c.number.result c.loop-number-test.true c.number-item.is c.number.ensures c.requires.size
    c.requires.value_limit c.loop-number.invariant).1

pub loop-number-preserved : goal.loop-number-preserved
loop-number-preserved c =
    let dual = to_z w64 (of_z w64 c.args.dual) in
    given_next c.args.numbers.now c.loop-number.number-index c.number-item.result c.number.result (given_out c.args.graph.now c.args.marks.now c.args.vertex dual) c.args.totals.now
    c.loop-number.totals (ascend c.args.graph.now c.args.vertex c.args.numbers.now c.requires.numbers) c.loop-number-test.true c.number-item.is c.number.ensures c.loop-number.invariant
    _ _ (ap (λ w. cond (is_marked c.args.marks.now w) (pos 0) dual) c.other_end-far.ensures.end) c.add_unmarked.ensures.size c.add_unmarked.ensures.exact

pub returns : goal.returns
returns c =
    let same : to_z w64 (of_z w64 c.args.dual) ≡ c.args.dual = search rules in
    subst (λ (d : ℤ). AddsAt c.args.graph.now c.args.vertex (given_out c.args.graph.now c.args.marks.now c.args.vertex d) c.args.totals.now c.loop-number.totals) same
    (given_all c.args.graph.now c.args.vertex c.args.numbers.now _ c.args.totals.now c.loop-number.totals c.requires.numbers c.loop-number.number-index (omega arith)
    c.loop-number.invariant)
