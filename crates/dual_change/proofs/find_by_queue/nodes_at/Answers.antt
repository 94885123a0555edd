use Rattle.dual_change.proofs.Ends.{ends_by}
use Rattle.dual_change.proofs.find_by_queue.nodes_at.Goals as goal

pub returns-clause-ends : goal.returns-clause-ends
returns-clause-ends g c =
    ends_by c.args.search.now c.args.graph.now c.args.e c.look-u.result.0 c.look-u.result.1 c.outermost.result c.outermost-2.result c.requires.shape c.requires.same_graph c.requires.edge
    c.look-u.ensures.from c.look-u.ensures.to c.outermost.ensures.node c.outermost-2.ensures.node
