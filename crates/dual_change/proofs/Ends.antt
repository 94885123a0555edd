-- The nodes that the code finds at the ends of an edge.
use Rattle.alt_forest.proofs.Common.{◌≡◌, ℕ, ap, ◌∙◌, sym, inl, subst, Multigraph, IsEdgeNumber, edge_of, outermost, node_u, node_v, HasShape, u_outer, v_outer}
use Rattle.alt_forest.specs.declared.search.Search.{Search}
use Rattle.dual_change.specs.Candidates.{IsEdgeBetween}

-- edge e of g has its ends u and v in these nodes
pub ends_by : (s : Search) (g : Multigraph) (e u v one other : ℕ) → HasShape s → g ≡ s.graph → IsEdgeNumber g e
    → u ≡ (edge_of g e).u → v ≡ (edge_of g e).v
    → one ≡ outermost s.arena.blossoms u → other ≡ outermost s.arena.blossoms v → IsEdgeBetween s e one other
ends_by s g e u v one other h graph edge from to one_is other_is =
    let number = subst (λ x. IsEdgeNumber x e) graph edge in
    let at_u : one ≡ node_u s.graph s.arena.blossoms e =
    one_is ∙ ap (outermost s.arena.blossoms) from ∙ ap (λ x. node_u x s.arena.blossoms e) graph in
    let at_v : other ≡ node_v s.graph s.arena.blossoms e =
    other_is ∙ ap (outermost s.arena.blossoms) to ∙ ap (λ x. node_v x s.arena.blossoms e) graph in
    record { number = number; joins = inl (sym at_u, sym at_v); one_is = u_outer s e one h number at_u; other_is = v_outer s e other h number at_v }

-- both ends are in one node
-- it doesn't matter which of the two comes first
