use Rattle.graph_theory.proofs.Common.{take}
use Rattle.tree_steps.specs.Moving.{AreInserted}
use Rattle.tree_steps.proofs.insertion.insert_circuit.Given as goal

abbrev pub invariant-loop-place : goal.invariant-loop-place
invariant-loop-place l = AreInserted l.fn.search l.search (take l.place l.fn.search.circuit.items) l.fn.tree_id
