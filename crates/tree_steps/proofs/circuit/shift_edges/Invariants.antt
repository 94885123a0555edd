use Rattle.graph_theory.proofs.Common.{◌≡◌, vec_len, vec_capacity}
use Rattle.tree_steps.proofs.Shifted.{IsShifted}
use Rattle.tree_steps.proofs.circuit.shift_edges.Given as goal

abbrev pub invariant-loop-place : goal.invariant-loop-place
invariant-loop-place l = record {
  shifted : IsShifted l.fn.first l.fn.links.items l.links.items l.place l.edge;
  len : vec_len l.links ≡ vec_len l.fn.links;
  capacity : vec_capacity l.links ≡ vec_capacity l.fn.links;
}
