use Rattle.graph_theory.proofs.Common.{◌≡◌, ◌+◌, ◌-◌}
use Rattle.dual_check.specs.Trees.{IsSpreadFrom, roots_to}
use Rattle.dual_check.proofs.stretches.begins_of.Given as goal

abbrev pub invariant-loop-k : goal.invariant-loop-k
invariant-loop-k l = record {
  begins : IsSpreadFrom l.sets l.count l.parents l.sizes (l.count - l.k) l.begins.items;
  end : l.end + roots_to l.count l.parents l.sizes (l.count - l.k) ≡ roots_to l.count l.parents l.sizes l.count;
}
