use Rattle.mb_problem.proofs.Common.{HasNoLoop, in_first, in_second}
use Rattle.gadget_base.specs.Gadgets.{sides_graph}
use Rattle.gadget_tjoin.proofs.Laws.{if_that}
use Rattle.gadget_parity.proofs.SideGraph.{sides-no_loop}
use Rattle.gadget_parity.proofs.layers.parity.Goals as goal

pub returns-clause-loopless : goal.returns-clause-loopless
returns-clause-loopless c =
    let i = c.args.instance.now in
    let one = in_first c.args.odd i in
    let two = in_second c.args.odd i in
    if_that HasNoLoop c.build.result (sides_graph one two i) c.build.ensures.graph (sides-no_loop one two i c.build.ensures.network)
