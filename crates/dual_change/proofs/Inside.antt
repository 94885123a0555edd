-- The edges of a blossom's circuit lie within one outermost node.
use Rattle.alt_forest.proofs.Common.{nat_tests, ◌≡◌, ℕ, true, List, [], ◌∷◌, length, refl, ap, ◌∙◌, arith, AllByRecursion, Multigraph, IsGraph, IsEdgeNumber, edge_of}
use Rattle.alt_forest.proofs.Common.{Link, Blossom, IsNested, in_ring, nodes_of, first_in, later_in, member_by_ring, u_vertex, v_vertex, node_u, node_v, next_node, IsChainTo, IsRing}
use Rattle.alt_forest.proofs.Common.{HasRings}

-- what holds of each element in two ways holds of it in a third one
each_with : {A : Type 0} (P Q R : A → Type 0) → ((x : A) → P x → Q x → R x) → (xs : List A) → AllByRecursion P xs → AllByRecursion Q xs → AllByRecursion R xs
each_with P Q R f [] p q = tt
each_with P Q R f (x ∷ xs) p q = (f x p.0 q.0, each_with P Q R f xs p.1 q.1)

pub rings_with : (P Q R : Link → Type 0) → ((l : Link) → P l → Q l → R l) → (bs : List Blossom) → AllByRecursion (λ (b : Blossom). AllByRecursion P b.ring) bs
    → AllByRecursion (λ (b : Blossom). AllByRecursion Q b.ring) bs → AllByRecursion (λ (b : Blossom). AllByRecursion R b.ring) bs
rings_with P Q R f = each_with (λ (b : Blossom). AllByRecursion P b.ring) (λ (b : Blossom). AllByRecursion Q b.ring) (λ (b : Blossom). AllByRecursion R b.ring)
    (λ b. each_with P Q R f b.ring)

-- an edge of a link, both of whose ends lie in one node
pub record LiesWithin (g : Multigraph) (bs : List Blossom) (l : Link) : Type 0 where
  pub edge : IsEdgeNumber g l.edge
  pub one_node : node_u g bs l.edge ≡ node_v g bs l.edge

module _ (g : Multigraph) (graph : IsGraph g) where
  -- the newest blossom's own circuit
  module _ (b : Blossom) (older : List Blossom) (h : IsNested g.vertices (b ∷ older)) where
    next_in : (z : ℕ) (ks : List Link) → in_ring b.ring z ≡ true → ((a : ℕ) → in_ring ks a ≡ true → in_ring b.ring a ≡ true) → in_ring b.ring (next_node ks z) ≡ true
    next_in z [] zin all = zin
    next_in z (k ∷ ks) zin all = all k.node (first_in k.node (nodes_of ks))

    chain_within : (z : ℕ) (ring : List Link) → in_ring b.ring z ≡ true → ((a : ℕ) → in_ring ring a ≡ true → in_ring b.ring a ≡ true) → IsChainTo g older ring z
        → AllByRecursion (LiesWithin g (b ∷ older)) ring
    chain_within z [] zin all chain = tt
    chain_within z (l ∷ rest) zin all chain =
        let here : in_ring b.ring l.node ≡ true = all l.node (first_in l.node (nodes_of rest)) in
        let next : in_ring b.ring (next_node rest z) ≡ true = next_in z rest zin (λ a r. all a (later_in l.node (nodes_of rest) a r)) in
        let in_u = member_by_ring g.vertices older b (edge_of g l.edge).u h (u_vertex g l.edge graph.ends chain.0) in
        let in_v = member_by_ring g.vertices older b (edge_of g l.edge).v h (v_vertex g l.edge graph.ends chain.0) in (
          record { edge = chain.0; one_node = grind (arith, nat_tests, chain.1) },
          chain_within z rest zin (λ a r. all a (later_in l.node (nodes_of rest) a r)) chain.2,
        )

    ring_within : IsRing g older b.ring → AllByRecursion (LiesWithin g (b ∷ older)) b.ring
    ring_within ring = by_links b.ring refl
      where
        by_links : (ks : List Link) → b.ring ≡ ks → AllByRecursion (LiesWithin g (b ∷ older)) b.ring
        by_links [] e = absurd (omega (arith, h.0.circuit.at_least_three, ap (λ (r : List Link). length r) e))
        by_links (k ∷ ks) e = chain_within (next_node b.ring 0) b.ring (ap (λ r. in_ring b.ring (next_node r 0)) e ∙ ap (λ r. in_ring r k.node) e ∙ first_in k.node (nodes_of ks))
            (λ a r. r) ring

    -- what lay in one node lies in one node
    still_within : (l : Link) → LiesWithin g older l → LiesWithin g (b ∷ older) l
    still_within l w =
        let in_u = member_by_ring g.vertices older b (edge_of g l.edge).u h (u_vertex g l.edge graph.ends w.edge) in
        let in_v = member_by_ring g.vertices older b (edge_of g l.edge).v h (v_vertex g l.edge graph.ends w.edge) in
        record { edge = w.edge; one_node = grind (arith, nat_tests, w.one_node) }

  pub rings_within : (bs : List Blossom) → IsNested g.vertices bs → HasRings g bs → AllByRecursion (λ (c : Blossom). AllByRecursion (LiesWithin g bs) c.ring) bs
  rings_within [] h rings = tt
  rings_within (b ∷ older) h rings = (
    ring_within b older h rings.0,
    let before = rings_within older h.1 rings.1 in
        rings_with (LiesWithin g older) (LiesWithin g older) (LiesWithin g (b ∷ older)) (λ l w _. still_within b older h l w) older before before,
  )
