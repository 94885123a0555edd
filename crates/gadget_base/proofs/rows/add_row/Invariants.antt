use Rattle.graph_theory.proofs.Common.{◌≡◌, ◌++◌, IsGraph}
use Rattle.gadget_base.specs.Blocks.{row}
use Rattle.gadget_base.proofs.rows.add_row.Given as goal

abbrev pub invariant-loop-j : goal.invariant-loop-j
invariant-loop-j l = record {
  added : l.graph ≡ record l.initial.graph { edges = l.initial.graph.edges ++ row l.u l.before l.j l.w };
  graph : IsGraph l.graph;
}
