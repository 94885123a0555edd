-- A family where an outermost blossom is taken away: which nodes are outermost, and what edges join.
use Rattle.alt_forest.proofs.Common.{◌≡◌, ◌≢◌, ◌⊎◌, ℕ, ◌+◌, ◌<◌, ℤ, pos, ◌+ℤ◌, true, false, not, ◌||◌, eqb, cond, List, [], ◌∷◌, length, refl}
use Rattle.alt_forest.proofs.Common.{sym, ap, ◌∙◌, arith, ⊎_elim, inl, inr, AllByRecursion, or_right, or_left, or_parts, or_cases, and_from, both_ways, false_from_ne_true, eq-eqb}
use Rattle.alt_forest.proofs.Common.{eqb-true, eqb-false, ne_eqb, Edge, Multigraph, IsGraph, IsEdgeNumber, edge_of, holds, crosses, edge_of_within, Link, Blossom, IsNested, is_node}
use Rattle.alt_forest.proofs.Common.{is_child, is_outermost, is_vertex, in_ring, names_of, outermost, without, ring_of, older_than, duals_across, by_test, outermost_parts, vertex_range}
use Rattle.alt_forest.proofs.Common.{member_by_ring, node_without, Joins, next_node, IsChainTo, HasRings, u_vertex, v_vertex}
use Rattle.tree_steps.proofs.Shrunk.{across_zero}

-- one blossom fewer
pub one_fewer : (bs : List Blossom) (a : ℕ) → holds (names_of bs) a ≡ true → length (without bs a) + 1 ≡ length bs
one_fewer [] a m = absurd (both_ways false refl m)
one_fewer (b ∷ older) a m = by_test (eqb b.node a)
    (λ e. rw e (let same : length older + 1 ≡ length (b ∷ older) = omega arith in same))
    (λ e. rw e (let rest = one_fewer older a (rw e at m) in let same : length (b ∷ without older a) + 1 ≡ length (b ∷ older) = omega (arith, rest) in same))

-- a blossom of dual 0 adds nothing to what an edge feels
pub across_without : (y : ℕ → ℤ) (bs : List Blossom) (a : ℕ) (e : Edge) → y a ≡ pos 0 → duals_across y (without bs a) e ≡ duals_across y bs e
across_without y [] a e none = refl
across_without y (b ∷ older) a e none = by_test (eqb b.node a)
    (λ s. rw s (sym (across_zero y b older e (ap y (eqb-true b.node a s) ∙ none))))
    (λ s. rw s (ap (λ t. cond (crosses b.members e) (y b.node) (pos 0) +ℤ t) (across_without y older a e none)))

-- a vertex in another node stays there
pub outermost_elsewhere : (bs : List Blossom) (a v : ℕ) → outermost bs v ≢ a → outermost (without bs a) v ≡ outermost bs v
outermost_elsewhere [] a v ne = refl
outermost_elsewhere (b ∷ older) a v ne = by_test (holds b.members v)
    (λ m. by_test (eqb b.node a) (λ s. absurd (ne (rw m (eqb-true b.node a s)))) (λ s. rw (s, m) refl))
    (λ m. by_test (eqb b.node a) (λ s. rw (s, m) refl) (λ s. rw (s, m) (outermost_elsewhere older a v (λ e. ne (rw m e)))))

-- a vertex of the blossom comes into the child that holds it
pub outermost_opened : (bs : List Blossom) (a v : ℕ) → outermost bs v ≡ a → v ≢ a → outermost (without bs a) v ≡ outermost (older_than bs a) v
outermost_opened [] a v e ne = absurd (ne e)
outermost_opened (b ∷ older) a v e ne = by_test (eqb b.node a)
    (λ s. rw s refl) (λ s. by_test (holds b.members v) (λ m. absurd (eqb-false b.node a s (rw m at e))) (λ m. rw (s, m) (outermost_opened older a v (rw m at e) ne)))

-- a vertex whose node before lay on its circuit is in the blossom
pub outermost_by_ring : (n : ℕ) (bs : List Blossom) (a v : ℕ) → IsNested n bs → is_vertex n v ≡ true → is_child bs a ≡ false
    → in_ring (ring_of bs a) (outermost (older_than bs a) v) ≡ true → outermost bs v ≡ a
outermost_by_ring n [] a v h iv out r = absurd (both_ways false refl r)
outermost_by_ring n (b ∷ older) a v h iv out r =
    let parts = or_parts (in_ring b.ring a) (is_child older a) out in
    let member : holds b.members v ≡ in_ring b.ring (outermost older v) = member_by_ring n older b v h iv in
    by_test (eqb b.node a)
    (λ s. rw (member ∙ (rw s at r)) (eqb-true b.node a s))
    (λ s. let rest : outermost older v ≡ a = outermost_by_ring n older a v h.1 iv parts.1 (rw s at r) in rw (member ∙ ap (in_ring b.ring) rest ∙ parts.0) rest)

-- an end that came into a child of the blossom's circuit is in that child
end_opened : (n : ℕ) (bs : List Blossom) (a v x : ℕ) → IsNested n bs → n < a → is_child bs a ≡ false → is_vertex n v ≡ true → in_ring (ring_of bs a) x ≡ true
    → outermost (older_than bs a) v ≡ x → outermost (without bs a) v ≡ x
end_opened n bs a v x h above out iv r e =
    let range = vertex_range n v iv in
    outermost_opened bs a v (outermost_by_ring n bs a v h iv out (ap (in_ring (ring_of bs a)) e ∙ r)) (λ q. absurd (omega (arith, q, range.1, above))) ∙ e

-- an edge between two children joins them once the blossom is open
pub joins_opened : (g : Multigraph) (bs : List Blossom) (a e x y : ℕ) → IsGraph g → IsNested g.vertices bs → g.vertices < a → is_child bs a ≡ false → IsEdgeNumber g e
    → in_ring (ring_of bs a) x ≡ true → in_ring (ring_of bs a) y ≡ true → Joins g (older_than bs a) e x y → Joins g (without bs a) e x y
joins_opened g bs a e x y graph h above out is rx ry j =
    let u_is = u_vertex g e graph.ends is in let v_is = v_vertex g e graph.ends is in
    ⊎_elim
    (λ p. inl (end_opened g.vertices bs a (edge_of g e).u x h above out u_is rx p.0, end_opened g.vertices bs a (edge_of g e).v y h above out v_is ry p.1))
    (λ p. inr (end_opened g.vertices bs a (edge_of g e).u y h above out u_is ry p.0, end_opened g.vertices bs a (edge_of g e).v x h above out v_is rx p.1))
    j

-- and an edge between two other nodes stays
pub joins_elsewhere : (g : Multigraph) (bs : List Blossom) (a e x y : ℕ) → x ≢ a → y ≢ a → Joins g bs e x y → Joins g (without bs a) e x y
joins_elsewhere g bs a e x y nx ny j =
    ⊎_elim
    (λ p. inl (outermost_elsewhere bs a (edge_of g e).u (λ q. nx (sym p.0 ∙ q)) ∙ p.0, outermost_elsewhere bs a (edge_of g e).v (λ q. ny (sym p.1 ∙ q)) ∙ p.1))
    (λ p. inr (outermost_elsewhere bs a (edge_of g e).u (λ q. ny (sym p.0 ∙ q)) ∙ p.0, outermost_elsewhere bs a (edge_of g e).v (λ q. nx (sym p.1 ∙ q)) ∙ p.1))
    j

-- an edge from the blossom to another node joins that one and the child that holds its end
pub joins_child : (g : Multigraph) (bs : List Blossom) (a e w : ℕ) → IsGraph g → g.vertices < a → IsEdgeNumber g e → a ≢ w → Joins g bs e a w
    → Joins g (without bs a) e (outermost (older_than bs a) (cond (eqb (outermost bs (edge_of g e).u) a) (edge_of g e).u (edge_of g e).v)) w
joins_child g bs a e w graph above is ne j =
    let within = edge_of_within g e graph.ends is in let u : ℕ = (edge_of g e).u in
    let v : ℕ = (edge_of g e).v in
    let u_not : u ≢ a = λ q. absurd (omega (arith, q, within.u_high, above)) in
    let v_not : v ≢ a = λ q. absurd (omega (arith, q, within.v_high, above)) in
    ⊎_elim
    (λ p. rw (eq-eqb (outermost bs u) a p.0) (inl (outermost_opened bs a u p.0 u_not, outermost_elsewhere bs a v (λ q. ne (sym q ∙ p.1)) ∙ p.1)))
    (λ p. rw (ne_eqb (outermost bs u) a (λ q. ne (sym q ∙ p.0))) (inr (outermost_elsewhere bs a u (λ q. ne (sym q ∙ p.0)) ∙ p.0, outermost_opened bs a v p.1 v_not)))
    j

-- a child of the rest, or of the blossom
child_opened : (bs : List Blossom) (a c : ℕ) → is_child bs c ≡ true → (is_child (without bs a) c ≡ true) ⊎ (in_ring (ring_of bs a) c ≡ true)
child_opened [] a c e = absurd (both_ways false refl e)
child_opened (b ∷ older) a c e = by_test (eqb b.node a)
    (λ s. rw s (⊎_elim (λ r. inr r) (λ r. inl r) (or_cases (in_ring b.ring c) (is_child older c) e)))
    (λ s. rw s (⊎_elim
    (λ r. inl (or_left (in_ring b.ring c) (is_child (without older a) c) r))
    (λ r. ⊎_elim (λ k. inl (or_right (in_ring b.ring c) (is_child (without older a) c) k)) (λ k. inr k) (child_opened older a c r))
    (or_cases (in_ring b.ring c) (is_child older c) e)))

-- what is outermost once the blossom is open was so before, or lay on its circuit
pub outer_opened : (n : ℕ) (bs : List Blossom) (a c : ℕ) → is_outermost n (without bs a) c ≡ true → c ≢ a → (is_outermost n bs c ≡ true) ⊎ (in_ring (ring_of bs a) c ≡ true)
outer_opened n bs a c is ne =
    let parts = outermost_parts n (without bs a) c is in
    let node : is_node n bs c ≡ true = sym (node_without n bs a c (ne_eqb a c (λ q. ne (sym q)))) ∙ parts.0 in
    by_test (is_child bs c)
    (λ e. ⊎_elim (λ k. absurd (both_ways (is_child (without bs a) c) parts.1 k)) (λ k. inr k) (child_opened bs a c e))
    (λ e. inl (and_from (is_node n bs c) (not (is_child bs c)) node (ap not e)))

-- the blossom is no node any more
pub gone : (n : ℕ) (bs : List Blossom) (a : ℕ) → IsNested n bs → n < a → is_node n (without bs a) a ≡ false
gone n bs a h above = ap (λ t. t || holds (names_of (without bs a)) a) low ∙ no_name bs h
  where
    low : is_vertex n a ≡ false
    low = false_from_ne_true (is_vertex n a) (λ e. let r = vertex_range n a e in absurd (omega (arith, r.1, above)))

    no_name : (bs : List Blossom) → IsNested n bs → holds (names_of (without bs a)) a ≡ false
    no_name [] h = refl
    no_name (b ∷ older) h = by_test (eqb b.node a)
        (λ s. rw s (ap (holds (names_of older)) (sym (eqb-true b.node a s)) ∙ (or_parts (is_vertex n b.node) (holds (names_of older) b.node) h.0.fresh).1))
        (λ s. rw (s, s) (no_name older h.1))

-- the circuits of the other blossoms are rings as before
next_differs : (ls : List Link) (a z : ℕ) → in_ring ls a ≡ false → z ≢ a → next_node ls z ≢ a
next_differs [] a z out nz = nz
next_differs (l ∷ ls) a z out nz = eqb-false l.node a (or_parts (eqb l.node a) (in_ring ls a) out).0

chain_elsewhere : (g : Multigraph) (bs : List Blossom) (a : ℕ) (ls : List Link) (z : ℕ) → in_ring ls a ≡ false → z ≢ a → IsChainTo g bs ls z → IsChainTo g (without bs a) ls z
chain_elsewhere g bs a [] z out nz chain = tt
chain_elsewhere g bs a (l ∷ ls) z out nz chain =
    let parts = or_parts (eqb l.node a) (in_ring ls a) out in (
      chain.0,
      joins_elsewhere g bs a l.edge l.node (next_node ls z) (eqb-false l.node a parts.0) (next_differs ls a z parts.1 nz) chain.1,
      chain_elsewhere g bs a ls z parts.1 nz chain.2,
    )

pub rings_without : (g : Multigraph) (bs : List Blossom) (a : ℕ) → 0 < a → is_child bs a ≡ false → HasRings g bs → HasRings g (without bs a)
rings_without g [] a low out rings = tt
rings_without g (b ∷ older) a low out rings =
    let parts = or_parts (in_ring b.ring a) (is_child older a) out in
    let first = next_differs b.ring a 0 parts.0 (λ q. absurd (omega (arith, q, low))) in
    elim (eqb b.node a) as (λ q. HasRings g (cond q older (b ∷ without older a))) [
      | true ↦ rings.1
      | false ↦ (chain_elsewhere g older a b.ring (next_node b.ring 0) parts.0 first rings.0, rings_without g older a low parts.1 rings.1)
    ]

-- what is known of the circuit of a blossom of the family
pub ring_chain : (g : Multigraph) (bs : List Blossom) (a : ℕ) → HasRings g bs → IsChainTo g (older_than bs a) (ring_of bs a) (next_node (ring_of bs a) 0)
ring_chain g [] a h = tt
ring_chain g (b ∷ older) a h =
    elim (eqb b.node a) as (λ q. IsChainTo g (cond q older (older_than older a)) (cond q b.ring (ring_of older a)) (next_node (cond q b.ring (ring_of older a)) 0))
    [ true ↦ h.0 | false ↦ ring_chain g older a h.1 ]

pub ring_each_link : (P : Link → Type 0) (bs : List Blossom) (a : ℕ) → AllByRecursion (λ (b : Blossom). AllByRecursion P b.ring) bs → AllByRecursion P (ring_of bs a)
ring_each_link P [] a h = tt
ring_each_link P (b ∷ older) a h = elim (eqb b.node a) as (λ q. AllByRecursion P (cond q b.ring (ring_of older a))) [ true ↦ h.0 | false ↦ ring_each_link P older a h.1 ]
