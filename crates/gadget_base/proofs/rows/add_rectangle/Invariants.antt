use Rattle.graph_theory.proofs.Common.{◌≡◌, ◌+◌, ◌++◌, IsGraph}
use Rattle.gadget_base.specs.Blocks.{blocks, row}
use Rattle.gadget_base.proofs.rows.add_rectangle.Given as goal

abbrev pub invariant-loop-a : goal.invariant-loop-a
invariant-loop-a l = record {
  added : l.graph ≡ record l.initial.graph { edges = l.initial.graph.edges ++ blocks (λ a. row (l.first + a + 1) l.second l.n l.w) l.a };
  graph : IsGraph l.graph;
}
