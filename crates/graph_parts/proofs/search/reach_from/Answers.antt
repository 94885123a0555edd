use Rattle.graph_theory.proofs.Common.{arith, number_at}
use Rattle.graph_parts.proofs.SearchLemmas.{reaches-next, reaches-all}
use Rattle.graph_parts.proofs.LinkLemmas.{from-next, link-from}
use Rattle.graph_parts.proofs.search.reach_from.Goals as goal

pub other_end-to-requires : goal.other_end-to-requires
other_end-to-requires c = (number_at c.args.graph.now c.args.vertex c.args.numbers.now c.loop-number.number-index c.number-item.result c.requires.numbers c.loop-number-test.true
    c.number-item.is).0

pub loop-number-preserved : goal.loop-number-preserved
loop-number-preserved c =
    let g = c.args.graph.now in
    let number = number_at g c.args.vertex c.args.numbers.now c.loop-number.number-index c.number-item.result c.requires.numbers c.loop-number-test.true c.number-item.is in
    let so_far = c.loop-number.invariant in
    let link = link-from g c.number-item.result c.args.vertex c.other_end-to.result c.other_end-to.ensures.graph number.0 number.1 c.other_end-to.ensures.end in
    record {
      reached = reaches-next g c.args.removed.now c.args.vertex c.args.numbers.now c.loop-number.number-index c.number-item.result c.other_end-to.result c.args.marks.now
          c.args.reached.now.items c.loop-number.marks c.loop-number.reached.items c.reach.new.marks c.reach.new.reached.items
          c.other_end-to.ensures.graph c.requires.numbers c.loop-number-test.true c.number-item.is c.other_end-to.ensures.end (omega arith) so_far.reached c.in_ok-reach.ensures.reached;
      links = from-next g c.args.vertex c.args.reached.now.items c.args.links.now.items c.loop-number.reached.items c.loop-number.links.items _ c.reach.new.reached.items
          c.reach.new.links.items link.0 link.1 so_far.links c.in_ok-reach.ensures.links;
    }

pub returns-clause-reached : goal.returns-clause-reached
returns-clause-reached c =
    reaches-all c.args.graph.now c.args.removed.now c.args.vertex c.args.numbers.now c.loop-number.number-index c.args.marks.now c.args.reached.now.items c.loop-number.marks
    c.loop-number.reached.items c.requires.numbers (omega arith) c.loop-number.invariant.reached

pub returns-clause-links : goal.returns-clause-links
returns-clause-links c = c.loop-number.invariant.links
