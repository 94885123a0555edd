-- The node of a blossom's circuit that holds the end of an edge that leaves the blossom.
use Rattle.alt_forest.proofs.Common.{◌≡◌, ◌⊎◌, ℕ, true, false, eqb, cond, List, ap, ◌∙◌, ⊎_elim, eqb-true, eqb-false, Multigraph, IsGraph, IsEdgeNumber, edge_of, holds}
use Rattle.alt_forest.proofs.Common.{Blossom, IsNested, names_of, in_ring, ring_of, child_holding, by_test, holder, end_member, u_vertex, v_vertex, node_u, node_v}
use Rattle.tree_steps.specs.Expanded.{child_at}

pub other_end_in : (g : Multigraph) (bs : List Blossom) (a e : ℕ) → eqb (node_u g bs e) a ≡ false → (node_u g bs e ≡ a) ⊎ (node_v g bs e ≡ a) → node_v g bs e ≡ a
other_end_in g bs a e t leaves = ⊎_elim (λ q. absurd (eqb-false (node_u g bs e) a t q)) (λ q. q) leaves

pub child_in : (g : Multigraph) (bs : List Blossom) (a e : ℕ) → IsGraph g → IsNested g.vertices bs → holds (names_of bs) a ≡ true → IsEdgeNumber g e
    → (node_u g bs e ≡ a) ⊎ (node_v g bs e ≡ a) → in_ring (ring_of bs a) (child_at g bs a e) ≡ true
child_in g bs a e graph h k is leaves =
    let u : ℕ = (edge_of g e).u in let v : ℕ = (edge_of g e).v in
    by_test (eqb (node_u g bs e) a)
    (λ t. ap (λ q. in_ring (ring_of bs a) (child_holding bs a (cond q u v))) t ∙ holder g.vertices bs a h k u (u_vertex g e graph.ends is)
    (end_member g.vertices bs a u h (u_vertex g e graph.ends is) (eqb-true (node_u g bs e) a t)))
    (λ t. ap (λ q. in_ring (ring_of bs a) (child_holding bs a (cond q u v))) t ∙ holder g.vertices bs a h k v (v_vertex g e graph.ends is)
    (end_member g.vertices bs a v h (v_vertex g e graph.ends is) (other_end_in g bs a e t leaves)))
