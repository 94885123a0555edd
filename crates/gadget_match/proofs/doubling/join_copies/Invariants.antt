use Rattle.graph_theory.proofs.Common.{◌≡◌, ◌+◌, ◌++◌, pos, IsGraph}
use Rattle.gadget_base.specs.Blocks.{tabled}
use Rattle.gadget_match.proofs.doubling.join_copies.Given as goal

abbrev pub invariant-loop-k : goal.invariant-loop-k
invariant-loop-k l = record {
  added : l.graph ≡ record l.initial.graph { edges = l.initial.graph.edges ++ tabled (λ k. record { u = k + 1; v = k + 1 + l.n; w = pos 0 }) l.k };
  graph : IsGraph l.graph;
}
