use Rattle.graph_theory.proofs.Common.{◌≡◌, ◌+◌, ◌++◌, pos, IsGraph}
use Rattle.gadget_base.specs.Blocks.{tabled}
use Rattle.gadget_interval.proofs.halves.join_twins.Given as goal

abbrev pub invariant-loop-a : goal.invariant-loop-a
invariant-loop-a l = record {
  added : l.graph ≡ record l.initial.graph {
    edges = l.initial.graph.edges ++ tabled (λ a. record { u = l.before + (l.low + a) + 1; v = l.before + (l.low + a) + 1 + l.by; w = pos 0 }) l.a;
  };
  graph : IsGraph l.graph;
}
