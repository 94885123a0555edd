use Rattle.graph_theory.proofs.Common.{◌≡◌, ◌+◌, ◌≤◌, ◌++◌, length, vec_len, vec_capacity}
use Rattle.tree_steps.proofs.circuit.push_links.Given as goal

abbrev pub invariant-loop-link : goal.invariant-loop-link
invariant-loop-link l = record {
  items : l.circuit.items ++ l.link-iterator ≡ l.fn.circuit.items ++ l.fn.links;
  room : vec_len l.circuit + length l.link-iterator ≤ vec_capacity l.circuit;
  capacity : vec_capacity l.circuit ≡ vec_capacity l.fn.circuit;
}
