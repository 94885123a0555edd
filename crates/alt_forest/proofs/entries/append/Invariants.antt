use Rattle.graph_theory.proofs.Common.{◌≡◌, ◌++◌, vec_capacity}
use Rattle.alt_forest.proofs.entries.append.Given as goal

abbrev pub invariant-loop-v : goal.invariant-loop-v
invariant-loop-v l = record { items : l.list.items ++ l.v-iterator ≡ l.fn.list.items ++ l.fn.vertices; capacity : vec_capacity l.list ≡ vec_capacity l.fn.list }
