-- The edges at a vertex, as a search lists them.
use Rattle.graph_theory.proofs.Common.{◌≡◌, ℕ, ◌<◌, true, List, [], All, length, get_or, sym, ap, ◌∙◌, subst, slice_index_or, All-get_or, edges_around}
use Rattle.blossom_arena.specs.Family.{is_vertex}
use Rattle.blossom_arena.proofs.Nested.{vertex_range}
use Rattle.search_tables.specs.declared.incident_edges.IncidentEdge.{IncidentEdge}
use Rattle.search_tables.specs.IncidentEdges.{IsIncidentEdge, numbers_of}
use Rattle.alt_forest.specs.declared.search.Search.{Search}
use Rattle.alt_forest.specs.Searches.{HasShape}

pub incidence_around : (s : Search) (v : ℕ) (xs : List IncidentEdge) → HasShape s → is_vertex s.graph.vertices v ≡ true → xs ≡ slice_index_or s.incidence v []
    → numbers_of xs ≡ edges_around s.graph v
incidence_around s v xs h vertex is = ap numbers_of is ∙ h.room.index.edges v (vertex_range s.graph.vertices v vertex).1

pub incidence_leads : (s : Search) (v : ℕ) (xs : List IncidentEdge) (k : ℕ) (p : IncidentEdge) → HasShape s → is_vertex s.graph.vertices v ≡ true
    → xs ≡ slice_index_or s.incidence v []
    → k < length xs → p ≡ get_or xs k p → IsIncidentEdge s.graph v p
incidence_leads s v xs k p h vertex is low at =
    subst (IsIncidentEdge s.graph v) (sym at) (All-get_or (IsIncidentEdge s.graph v) xs k p low
    (subst (All (IsIncidentEdge s.graph v)) (sym is) (h.room.index.leads v (vertex_range s.graph.vertices v vertex).1)))
