use Rattle.graph_theory.proofs.Common.{◌≡◌, ◌<◌, length, vec_len, AllByRecursion}
use Rattle.blossom_arena.specs.Tables.{filled}
use Rattle.blossom_arena.specs.declared.links.Link.{Link}
use Rattle.blossom_arena.specs.Family.{dual_at, nodes_of}
use Rattle.blossom_arena.specs.Fields.{core_at, vertices_at}
use Rattle.blossom_arena.specs.Placement.{heir_of, placement_of, released}
use Rattle.blossom_arena.proofs.runs.release.Given as goal

abbrev pub invariant-loop-link : goal.invariant-loop-link
invariant-loop-link l = record {
  rest : released (vertices_at l.followers l.count l.kept) (core_at l.count l.kept) (dual_at l.duals.values) l.core (placement_of l.partition) (nodes_of l.link-iterator)
      ≡ released (vertices_at l.followers l.count l.kept) (core_at l.count l.kept) (dual_at l.duals.values) l.core (placement_of l.fn.partition) (nodes_of l.fn.ring);
  heir : heir_of (core_at l.count l.kept) l.core l.largest (nodes_of l.link-iterator) ≡ heir_of (core_at l.count l.kept) l.core 0 (nodes_of l.fn.ring);
  low : l.largest < length l.duals.values;
  filled : filled l.parents.items (nodes_of l.link-iterator) 0 ≡ filled l.fn.parents.items (nodes_of l.fn.ring) 0;
  parents_len : vec_len l.parents ≡ vec_len l.fn.parents;
  parents : AllByRecursion (λ (k : Link). k.node < vec_len l.fn.parents) l.link-iterator;
  len : length l.partition.sets ≡ length l.fn.partition.sets;
  within : AllByRecursion (λ (k : Link). AllByRecursion (λ v. v < length l.followers) (vertices_at l.followers l.count l.kept k.node)
      × (core_at l.count l.kept k.node < length l.followers)) l.link-iterator;
  nodes : AllByRecursion (λ (k : Link). k.node < length l.duals.values) l.link-iterator;
}
