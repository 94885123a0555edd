use Rattle.graph_theory.proofs.Common.{◌≡◌, ap, sym, ◌∙◌, subst, take_all, HasNoLoop}
use Rattle.bottleneck.specs.Halving.{chosen}
use Rattle.bottleneck.proofs.Parts.{chosen-plain, chosen-more}
use Rattle.bottleneck.proofs.choosing.chosen_graph.Goals as goal

pub returns : goal.returns
returns c =
    let g = c.args.graph.now in
    let numbers = c.args.numbers.now in
    let whole : c.loop-number.part ≡ chosen g numbers = c.loop-number.invariant ∙ ap (chosen g) (take_all c.loop-number.number-index numbers c.loop-number-test.false) in
    record { graph = whole; loopless = subst HasNoLoop (sym whole) (chosen-plain g numbers c.requires.loopless c.requires.numbers) }

pub loop-number-preserved : goal.loop-number-preserved
loop-number-preserved c =
    let g = c.args.graph.now in
    let numbers = c.args.numbers.now in
    let n = c.number-item.result in
    chosen-more g numbers c.loop-number.number-index n c.edge-u.result.0 c.edge-u.result.1 c.loop-number.part _ c.loop-number-test.true c.loop-number.invariant
    c.number-item.is c.edge-u.ensures.from c.edge-u.ensures.to c.in_ok-add.ensures.added
