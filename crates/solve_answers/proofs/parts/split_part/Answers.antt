use Rattle.mb_problem.proofs.Common.{sym, subst, IsGraph, network-graph}
use Rattle.solve_answers.proofs.parts.split_part.Goals as goal

pub split_by-document-requires-clause-is_graph : goal.split_by-document-requires-clause-is_graph
split_by-document-requires-clause-is_graph c = subst IsGraph (sym c.in_ok-graph.ensures) (network-graph c.args.instance.now c.requires.network)

pub returns : goal.returns
returns c = c.split_by-document.ensures c.args.instance.now c.requires.network c.requires.weights c.in_ok-graph.ensures
