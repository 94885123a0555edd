use Rattle.graph_theory.proofs.Common.{◌≡◌, ◌<◌, drop, length, AllByRecursion}
use Rattle.blossom_arena.specs.declared.links.Link.{Link}
use Rattle.blossom_arena.specs.Family.{dual_at, nodes_of}
use Rattle.blossom_arena.specs.Fields.{core_at, vertices_at}
use Rattle.blossom_arena.specs.Placement.{absorbed, given, placement_of}
use Rattle.blossom_arena.proofs.runs.absorb.Given as goal

abbrev pub invariant-loop-link : goal.invariant-loop-link
invariant-loop-link l = record {
  rest : absorbed (vertices_at l.followers l.count l.kept) (core_at l.count l.kept) (dual_at l.duals.values) l.core l.node
      (placement_of l.partition) (nodes_of (drop l.link-index l.circuit))
      ≡ absorbed (vertices_at l.followers l.count l.kept) (core_at l.count l.kept) (dual_at l.duals.values) l.core l.node
      (given (placement_of l.fn.partition) l.core l.node (dual_at l.duals.values ((placement_of l.fn.partition).top ((placement_of l.fn.partition).set l.core))))
      (nodes_of l.circuit);
  len : length l.partition.sets ≡ length l.fn.partition.sets;
  within : AllByRecursion (λ (k : Link). AllByRecursion (λ v. v < length l.followers) (vertices_at l.followers l.count l.kept k.node)) (drop l.link-index l.circuit);
  nodes : AllByRecursion (λ (k : Link). k.node < length l.duals.values) (drop l.link-index l.circuit);
}
