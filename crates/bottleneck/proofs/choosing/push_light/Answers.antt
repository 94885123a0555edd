use Rattle.graph_theory.proofs.Common.{◌+◌, ◌≤ℤ◌, arith, ints, edge_of}
use Rattle.bottleneck.proofs.Places.{light-push}
use Rattle.bottleneck.proofs.choosing.push_light.Goals as goal

pub returns : goal.returns
returns c =
    let g = c.args.graph.now in
    let light : (edge_of g (c.args.place + 1)).w ≤ℤ c.args.most = grind (arith, ints) in
    rw (c.in_ok-push.ensures.items, c.new-number.ensures) (light-push g c.args.most c.args.place c.args.numbers.now.items c.requires.edge light c.requires.before)
