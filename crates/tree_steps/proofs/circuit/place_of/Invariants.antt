use Rattle.alt_forest.proofs.Common.{◌≡◌, ◌+◌, length, drop, nodes_of}
use Rattle.tree_steps.specs.Circuits.{before}
use Rattle.tree_steps.proofs.circuit.place_of.Given as goal

abbrev pub invariant-loop-place : goal.invariant-loop-place
invariant-loop-place l = length (before (nodes_of l.links) l.fn.node) ≡ l.place + length (before (nodes_of (drop l.place l.links)) l.fn.node)
