use Rattle.alt_forest.proofs.Common.{take, ◌≡◌, state_of}
use Rattle.search_keys.specs.Bounds.{HasPlaces}
use Rattle.tree_steps.specs.Moving.{AreEntered}
use Rattle.tree_steps.proofs.entering.bound_circuit.Given as goal

abbrev pub invariant-loop-place : goal.invariant-loop-place
invariant-loop-place l = record {
  frame : l.bounds ≡ record l.fn.bounds { moments = l.bounds.moments };
  places : HasPlaces l.fn.search.graph l.bounds;
  entered : AreEntered (state_of l.fn.search) l.fn.search.clock (take l.place l.fn.search.circuit.items) l.fn.bounds.moments l.bounds.moments;
}
