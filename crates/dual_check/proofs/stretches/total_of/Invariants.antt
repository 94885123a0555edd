use Rattle.graph_theory.proofs.Common.{◌≡◌}
use Rattle.dual_check.specs.Trees.{roots_to}
use Rattle.dual_check.proofs.stretches.total_of.Given as goal

abbrev pub invariant-loop-set : goal.invariant-loop-set
invariant-loop-set l = l.total ≡ roots_to l.count l.parents l.sizes l.set
