use Rattle.graph_theory.proofs.Common.{arith, common_steps}
use Rattle.search_tables.proofs.tree_nodes.put_last.Goals as goal

pub returns-clause-placed : goal.returns-clause-placed
returns-clause-placed c = grind (arith, common_steps)
