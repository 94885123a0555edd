use Rattle.graph_theory.proofs.Common.{arith}
use Rattle.alt_forest.proofs.Routes.{counted_on, counted_next}
use Rattle.alt_forest.proofs.meet.counted.Goals as goal

pub loop-nodes-preserved : goal.loop-nodes-preserved
loop-nodes-preserved c =
    counted_on c.args.path c.loop-nodes.rest c.next.new.self c.loop-nodes.nodes c.in-Some.field-0 c.in-Some.ensures.steps c.loop-nodes.invariant

pub returns-clause-goes_on : goal.returns-clause-goes_on
returns-clause-goes_on c =
    counted_next c.next-2.result c.args.path c.loop-nodes.rest c.next-2.new.self c.loop-nodes.nodes c.args.most c.next-2.ensures.steps c.loop-nodes.invariant.left
    (omega (arith, c.loop-nodes-test.false, c.loop-nodes.auto.nodes-end))
