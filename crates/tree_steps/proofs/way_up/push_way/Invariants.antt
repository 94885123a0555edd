use Rattle.alt_forest.proofs.Common.{◌≡◌, length, vec_capacity, path_of, state_of}
use Rattle.tree_steps.proofs.Pushed.{IsPushed}
use Rattle.tree_steps.proofs.way_up.push_way.Given as goal

abbrev pub invariant-loop-base : goal.invariant-loop-base
invariant-loop-base l = record {
  frame : l.search ≡ record l.fn.search { circuit = l.search.circuit };
  capacity : vec_capacity l.search.circuit ≡ vec_capacity l.fn.search.circuit;
  pushed : IsPushed (state_of l.fn.search) l.node l.base l.search.circuit.items l.fn.search.circuit.items l.fn.from;
}

abbrev pub decreases-loop-base : goal.decreases-loop-base
decreases-loop-base l = length (path_of (state_of l.fn.search) l.node)
