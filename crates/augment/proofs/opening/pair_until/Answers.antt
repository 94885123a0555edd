use Rattle.alt_forest.proofs.Common.{◌∙◌, sym, subst, AllByRecursion, IsEdgeNumber, Link, edge_in}
use Rattle.augment.specs.Opening.{spread_in}
use Rattle.augment.proofs.LinkPairs.{pair_next, wait, waits, stop_here, stop_end}
use Rattle.augment.proofs.opening.pair_until.Goals as goal

pub returns-then-number-clause-mates : goal.returns-then-number-clause-mates
returns-then-number-clause-mates c =
    stop_here (spread_in c.args.graph.now c.args.arena.now.blossoms c.args.b)
    (edge_in c.loop-link.mates.items) c.loop-link.first c.in-Some.link c.loop-link.link-iterator c.next.new.self c.args.node _ c.in-Some.ensures.steps
    (sym c.number.ensures ∙ c.if-number.true ∙ c.number-in-loop-link.ensures) c.loop-link.invariant.mates

pub loop-link-preserved : goal.loop-link-preserved
loop-link-preserved c =
    let v = c.loop-link.invariant in let e = c.pair-first.ensures in let step = c.in-Some.ensures.steps in
    let each = subst (AllByRecursion (λ (k : Link). IsEdgeNumber c.args.graph.now k.edge)) step v.each in
    record {
      mates = pair_next (spread_in c.args.graph.now c.args.arena.now.blossoms c.args.b) (edge_in c.loop-link.mates.items)
          (edge_in c.pair-first.new.mates.items) c.loop-link.first c.pair-first.result c.in-Some.link c.loop-link.link-iterator c.next.new.self c.args.node _ step
          (λ q. c.if-number.false (c.number.ensures ∙ q ∙ sym c.number-in-loop-link.ensures)) e.mates e.waiting v.mates;
      waiting = wait c.loop-link.first c.pair-first.result c.in-Some.link c.loop-link.link-iterator c.next.new.self c.args.node _ step
          (λ q. c.if-number.false (c.number.ensures ∙ q ∙ sym c.number-in-loop-link.ensures)) e.waiting v.waiting;
      first = λ x is. waits (λ (k : Link). IsEdgeNumber c.args.graph.now k.edge) c.loop-link.first c.pair-first.result c.in-Some.link x each.0 e.waiting is;
      each = each.1;
      len = e.len ∙ v.len;
    }

pub returns-clause-mates : goal.returns-clause-mates
returns-clause-mates c = stop_end (spread_in c.args.graph.now c.args.arena.now.blossoms c.args.b)
    (edge_in c.loop-link.mates.items) c.loop-link.first c.loop-link.link-iterator c.args.node _ c.in-None.ensures.steps.0 c.loop-link.invariant.mates
