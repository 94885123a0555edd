use Rattle.graph_theory.proofs.Common.{rules}
use Rattle.mb_problem.proofs.instance.Instance.set_range.Goals as goal

pub returns-clause-network : goal.returns-clause-network
returns-clause-network c = search rules

pub invariant_of-self : goal.invariant_of-self
invariant_of-self c = returns-clause-network c
