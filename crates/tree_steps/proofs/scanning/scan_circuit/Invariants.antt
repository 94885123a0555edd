use Rattle.alt_forest.proofs.Common.{◌≡◌, ◌++◌, drop, vec_capacity, state_of}
use Rattle.tree_steps.specs.Scanned.{newly_outer}
use Rattle.tree_steps.proofs.scanning.scan_circuit.Given as goal

abbrev pub invariant-loop-place : goal.invariant-loop-place
invariant-loop-place l = record {
  frame : l.search ≡ record l.fn.search { scanned = l.search.scanned };
  capacity : vec_capacity l.search.scanned ≡ vec_capacity l.fn.search.scanned;
  scanned : l.search.scanned.items ++ newly_outer (state_of l.fn.search) (drop l.place l.fn.search.circuit.items) ≡ newly_outer (state_of l.fn.search) l.fn.search.circuit.items;
}
