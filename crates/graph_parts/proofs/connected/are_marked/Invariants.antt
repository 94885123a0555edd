use Rattle.graph_theory.proofs.Common.{◌≡◌, ℕ, ◌<◌, true, edge_at}
use Rattle.graph_parts.specs.Marks.{is_marked}
use Rattle.graph_parts.proofs.connected.are_marked.Given as goal

abbrev pub invariant-loop-edge : goal.invariant-loop-edge
invariant-loop-edge l = (k : ℕ) → k < l.edge-index → is_marked l.marks (edge_at l.graph k).u ≡ true
