-- Where the lists of a search have a place for a node.
use Rattle.graph_theory.proofs.Common.{◌≡◌, ℕ, ◌≤◌, ◌<◌, true, eqb, refl, subst, arith, vec_len, cond_both, IsEdgeNumber, edge_of}
use Rattle.blossom_arena.specs.Family.{IsNested, is_vertex, outermost}
use Rattle.blossom_arena.proofs.Nested.{outermost_parts, node_range}
use Rattle.blossom_arena.proofs.Sets.{outermost_has}
use Rattle.blossom_arena.proofs.Ends.{u_vertex, v_vertex}
use Rattle.alt_forest.specs.declared.search.Search.{Search}
use Rattle.alt_forest.specs.State.{IsOutermost, node_u, node_v}
use Rattle.alt_forest.specs.Trees.{node_limit, other_node}
use Rattle.alt_forest.specs.Searches.{HasShape, state_of}

-- the blossoms are nested over the graph's vertices
pub nested_of : (s : Search) → HasShape s → IsNested s.graph.vertices s.arena.blossoms
nested_of s h = subst (λ n. IsNested n s.arena.blossoms) h.arena h.family.nested

-- an outermost node is one of 1 to the limit
pub outer_range : (s : Search) (a : ℕ) → HasShape s → IsOutermost (state_of s) a → (1 ≤ a) × (a ≤ node_limit s.graph.vertices)
outer_range s a h is = node_range s.graph.vertices s.arena.blossoms a (nested_of s h) (outermost_parts s.graph.vertices s.arena.blossoms a is).0

pub label_place : (s : Search) (a : ℕ) → HasShape s → IsOutermost (state_of s) a → a < vec_len s.labels
label_place s a h is = omega (arith, (outer_range s a h is).1, h.labels)

pub parent_place : (s : Search) (a : ℕ) → HasShape s → IsOutermost (state_of s) a → a < vec_len s.parents
parent_place s a h is = omega (arith, (outer_range s a h is).1, h.parents)

pub mate_place : (s : Search) (a : ℕ) → HasShape s → IsOutermost (state_of s) a → a < vec_len s.mates
mate_place s a h is = omega (arith, (outer_range s a h is).1, h.mates)

-- the outermost node that holds a vertex, and those at an edge
pub vertex_outer : (s : Search) (v a : ℕ) → HasShape s → is_vertex s.graph.vertices v ≡ true → a ≡ outermost s.arena.blossoms v → IsOutermost (state_of s) a
vertex_outer s v a h vertex same = rw same (outermost_has s.graph.vertices s.arena.blossoms v (nested_of s h) vertex).0

pub u_outer : (s : Search) (e a : ℕ) → HasShape s → IsEdgeNumber s.graph e → a ≡ node_u s.graph s.arena.blossoms e → IsOutermost (state_of s) a
u_outer s e a h is = vertex_outer s (edge_of s.graph e).u a h (u_vertex s.graph e h.graph.graph.ends is)

pub v_outer : (s : Search) (e a : ℕ) → HasShape s → IsEdgeNumber s.graph e → a ≡ node_v s.graph s.arena.blossoms e → IsOutermost (state_of s) a
v_outer s e a h is = vertex_outer s (edge_of s.graph e).v a h (v_vertex s.graph e h.graph.graph.ends is)

pub other_outer : (s : Search) (e a : ℕ) → HasShape s → IsEdgeNumber s.graph e → IsOutermost (state_of s) (other_node s.graph s.arena.blossoms e a)
other_outer s e a h is = cond_both (eqb (node_u s.graph s.arena.blossoms e) a) _ _ (IsOutermost (state_of s)) (λ _. v_outer s e _ h is refl) (λ _. u_outer s e _ h is refl)
