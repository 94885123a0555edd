use Rattle.graph_theory.proofs.Common.{◌≡◌, ◌<◌, drop, vec_len, AllByRecursion}
use Rattle.blossom_arena.specs.Family.{nodes_of}
use Rattle.blossom_arena.specs.declared.links.Link.{Link}
use Rattle.blossom_arena.specs.Tables.{noted, filled}
use Rattle.blossom_arena.proofs.tables.note.Given as goal

abbrev pub invariant-loop-link : goal.invariant-loop-link
invariant-loop-link l = record {
  noted : noted l.edges.items (drop l.link-index l.circuit) ≡ noted l.fn.edges.items l.circuit;
  filled : filled l.parents.items (nodes_of (drop l.link-index l.circuit)) l.node ≡ filled l.fn.parents.items (nodes_of l.circuit) l.node;
  edges_len : vec_len l.edges ≡ vec_len l.fn.edges;
  parents_len : vec_len l.parents ≡ vec_len l.fn.parents;
  within_edges : AllByRecursion (λ (k : Link). k.node < vec_len l.fn.edges) (drop l.link-index l.circuit);
  within_parents : AllByRecursion (λ (k : Link). k.node < vec_len l.fn.parents) (drop l.link-index l.circuit);
}
