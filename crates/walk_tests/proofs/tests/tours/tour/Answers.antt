use Rattle.mb_problem.proofs.Common.{◌≡◌, true, subst, rules, walk-numbers, Network, graph_of, IsFeasible, HasPlaces}
use Rattle.mb_problem.specs.declared.answer.Answer.TheVariants.{Counts, Walk, Nothing}
use Rattle.mb_problem.specs.declared.kind.Kind.TheVariants.{Postman}
use Rattle.mb_problem.specs.declared.answer.Answer.{Answer}
use Rattle.graph_parts.specs.Connected.{HasConnectedEdges}
use Rattle.walk_tests.proofs.tests.tours.tour.Goals as goal

pub closed_walk-requires-clause-connected : goal.closed_walk-requires-clause-connected
closed_walk-requires-clause-connected c =
    let joined : c.in_ok-edge_connected.field-0 ≡ true = search rules in
    subst HasConnectedEdges c.in_ok-graph.ensures (c.in_ok-edge_connected.ensures.exact.0 joined)

-- each step of a tour is the number of an edge
tour-places : (i : Network) (answer : Answer) → IsFeasible Postman i answer → HasPlaces i answer
tour-places i (Counts counts) tour = absurd tour
tour-places i (Walk start edges) tour = walk-numbers (graph_of i) start edges tour.closed.0
tour-places i Nothing none = tt

pub returns-in-Join : goal.returns-in-Join
returns-in-Join c = tour-places c.args.instance.now c.in_ok-closed_walk-in-Join.field-0 c.in_ok-closed_walk-in-Join.ensures.feasible
