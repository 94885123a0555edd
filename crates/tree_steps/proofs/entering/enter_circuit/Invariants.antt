use Rattle.alt_forest.proofs.Common.{take, ◌≡◌, IsSound, state_of}
use Rattle.tree_steps.specs.Moving.{AreEntered}
use Rattle.tree_steps.proofs.entering.enter_circuit.Given as goal

abbrev pub invariant-loop-place : goal.invariant-loop-place
invariant-loop-place l = record {
  frame : l.search ≡ record l.fn.search { queue = l.search.queue };
  sound : IsSound l.search;
  edges : l.search.queue.edges ≡ l.fn.search.queue.edges;
  entered : AreEntered (state_of l.fn.search) l.fn.search.clock (take l.place l.fn.search.circuit.items) l.fn.search.queue l.search.queue;
}
