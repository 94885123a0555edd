use Rattle.graph_theory.proofs.Common.{◌≡◌}
use Rattle.mb_problem.specs.Network.{graph_of}
use Rattle.mb_problem.specs.Heaviest.{greatest_to, used_weight}
use Rattle.mb_problem.proofs.measure.heaviest_of_counts.Given as goal

abbrev pub invariant-loop-k : goal.invariant-loop-k
invariant-loop-k l = l.greatest ≡ greatest_to (used_weight (graph_of l.instance) l.counts) l.k
