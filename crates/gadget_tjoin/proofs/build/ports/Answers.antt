use Rattle.mb_problem.proofs.Common.{HasNoLoop, odd_at}
use Rattle.gadget_base.specs.Gadgets.{ports_graph}
use Rattle.gadget_tjoin.proofs.PortEdges.{ports-no_loop, ports_sized}
use Rattle.gadget_tjoin.proofs.Laws.{reaches-joins, reaches_tjoins, if_that}
use Rattle.gadget_tjoin.proofs.Tours.{reaches_tours}
use Rattle.gadget_tjoin.proofs.Paths.{reaches_paths}
use Rattle.gadget_tjoin.proofs.build.ports.Goals as goal

pub returns : goal.returns
returns c =
    let i = c.args.instance.now in
    let parity = c.args.parity.now in
    let odd = odd_at parity i in
    let network = c.build.ensures.network in
    record {
      graph = c.build.ensures.graph;
      size = ports_sized i odd;
      loopless = if_that HasNoLoop c.build.result (ports_graph i odd) c.build.ensures.graph (ports-no_loop i odd network);
      reached = reaches-joins parity i network;
      tjoin = reaches_tjoins parity i network;
      postman = reaches_tours parity i network;
      path = reaches_paths parity i network;
    }
