use Rattle.graph_theory.proofs.Common.{walk-numbers}
use Rattle.mb_problem.specs.Network.{graph_of}
use Rattle.mb_problem.proofs.walks.is_tour.Goals as goal

pub uses_all-requires : goal.uses_all-requires
uses_all-requires c = walk-numbers (graph_of c.args.instance.now) c.args.start c.args.edges.now (c.is_round_trip.ensures.0 c.if-not-is_round_trip.false).1.0
