-- An edge that leads from one vertex to another, and has no other end.
use Rattle.graph_theory.proofs.Common.{◌≡◌, ℕ, ℤ, true, cond, eqb, List, sym, subst, ⊎_elim, arith, Multigraph, IsGraph, IsWeight, IsEdgeNumber, edge_of, touches, edge_of-weight}
use Rattle.graph_theory.proofs.Common.{nat_tests, ◌∙◌, inl, inr, other_end}
use Rattle.blossom_arena.specs.Family.{Blossom, is_vertex, outermost}
use Rattle.blossom_arena.proofs.Ends.{u_vertex, v_vertex}
use Rattle.alt_forest.specs.State.{Joins}
use Rattle.search_tables.specs.IncidentEdges.{LeadsTo}

-- an edge at a vertex leads to its other end
pub leads : (g : Multigraph) (e v x : ℕ) (w : ℤ) → IsEdgeNumber g e → touches (edge_of g e) v ≡ true → x ≡ cond (eqb (edge_of g e).u v) (edge_of g e).v (edge_of g e).u
    → w ≡ (edge_of g e).w → LeadsTo g e v x w
leads g e v x w is touched far weight = record { number = is; ends = grind (arith, nat_tests); weight = sym weight }

pub leads_vertex : (g : Multigraph) (e v x : ℕ) (w : ℤ) → IsGraph g → LeadsTo g e v x w → is_vertex g.vertices x ≡ true
leads_vertex g e v x w graph to = ⊎_elim
    (λ p. subst (λ (a : ℕ). is_vertex g.vertices a ≡ true) p.1 (v_vertex g e graph.ends to.number))
    (λ p. subst (λ (a : ℕ). is_vertex g.vertices a ≡ true) p.0 (u_vertex g e graph.ends to.number))
    to.ends

pub leads_weight : (g : Multigraph) (e v x : ℕ) (w : ℤ) → IsGraph g → LeadsTo g e v x w → IsWeight w
leads_weight g e v x w graph to = subst IsWeight to.weight (edge_of-weight g e graph to.number)

-- it joins the outermost nodes that hold the two
pub leads_joins : (g : Multigraph) (bs : List Blossom) (e v x a b : ℕ) (w : ℤ) → LeadsTo g e v x w → a ≡ outermost bs v → b ≡ outermost bs x → Joins g bs e a b
leads_joins g bs e v x a b w to near far = grind (arith, to.ends)

pub leads_back : (g : Multigraph) (e v u : ℕ) (w : ℤ) → LeadsTo g e v u w → LeadsTo g e u v w
leads_back g e v u w to = record { number = to.number; ends = ⊎_elim (λ p. inr (p.0, p.1)) (λ p. inl (p.0, p.1)) to.ends; weight = to.weight }

pub leads_touch : (g : Multigraph) (e v u : ℕ) (w : ℤ) → LeadsTo g e v u w → touches (edge_of g e) v ≡ true
leads_touch g e v u w to = grind (arith, nat_tests, to.ends)

pub leads_end : (g : Multigraph) (e v u : ℕ) (w : ℤ) → LeadsTo g e v u w → other_end (edge_of g e) v ≡ u
leads_end g e v u w to = grind (arith, nat_tests, to.ends)

pub leads_same : (g : Multigraph) (e v u x : ℕ) (w z : ℤ) → LeadsTo g e v u w → LeadsTo g e v x z → (u ≡ x) × (w ≡ z)
leads_same g e v u x w z one other = (sym (leads_end g e v u w one) ∙ leads_end g e v x z other, sym one.weight ∙ other.weight)
