use Rattle.certificates.proofs.Common.{◌≡◌, All, IsInstanceEdge, tabled}
use Rattle.array_call.specs.Arrays.{arrays_of, edge_at}
use Rattle.array_call.proofs.making.edges_of.Given as goal

abbrev pub invariant-loop-k : goal.invariant-loop-k
invariant-loop-k l = record {
  edges : l.edges.items ≡ tabled (edge_at (arrays_of l.arrays)) l.k;
  valid : All (IsInstanceEdge l.arrays.vertices) l.edges.items;
}
