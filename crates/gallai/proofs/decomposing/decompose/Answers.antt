use Rattle.gallai.proofs.Engines.{within_limits}
use Rattle.gallai.proofs.decomposing.decompose.Goals as goal

pub new-requires-clause-limits : goal.new-requires-clause-limits
new-requires-clause-limits g c = within_limits c.args.instance.now c.in_ok-graph.graph c.edges.ensures.network c.in_ok-graph.ensures.graph
