-- Sets of vertices that one edge of the matching leaves.
use Rattle.alt_forest.proofs.Common.{nat_tests, ◌≡◌, ◌≢◌, ◌≤◌, ℕ, Bool, true, false, not, List, [], ◌∷◌, length, sym, ap, ◌∙◌, arith, Option, Some, All}
use Rattle.alt_forest.proofs.Common.{if◌then◌else◌, AllByRecursion, Multigraph, IsEdgeWithin, IsEdgeNumber, edge_of, Edge, holds, Link, Blossom, in_ring, is_vertex, is_outermost}
use Rattle.alt_forest.proofs.Common.{outermost, IsNested, member_by_ring, outermost_node, next_node, IsChainTo, IsRing, same_Some, all_inside, u_vertex, v_vertex}
use Rattle.augment.specs.Opening.{IsPair, AreMated, Opens}
use Rattle.augment.proofs.Pairs.{first_outer, used_stays, used_still}

-- an edge has exactly one end in a set of vertices
abbrev pub leaves : (ℕ → Bool) → Edge → Bool
leaves x e = if x e.u then not (x e.v) else x e.v

-- exactly one mate leaves the set, which is made of whole outermost nodes
pub record IsLeftOnce (g : Multigraph) (bs : List Blossom) (m : ℕ → Option ℕ) (x : ℕ → Bool) : Type 0 where
  pub whole : (u v : ℕ) → is_vertex g.vertices u ≡ true → is_vertex g.vertices v ≡ true → outermost bs u ≡ outermost bs v → x u ≡ x v
  pub edge : ℕ
  pub node : ℕ
  pub node_is : is_outermost g.vertices bs node ≡ true
  pub taken : m node ≡ Some edge
  pub leaves_it : leaves x (edge_of g edge) ≡ true
  pub only : (c f : ℕ) → is_outermost g.vertices bs c ≡ true → m c ≡ Some f → leaves x (edge_of g f) ≡ true → f ≡ edge

module _ (g : Multigraph) (b : Blossom) (older : List Blossom) (m m' : ℕ → Option ℕ) (nested : IsNested g.vertices (b ∷ older)) (ends : All (IsEdgeWithin g.vertices) g.edges)
    (ring : IsRing g older b.ring) (mated : AreMated g (b ∷ older) m) (inner : ℕ) (h : Opens g older b.node inner b.ring b.members m m') where
  abbrev n : ℕ
  n = g.vertices

  abbrev bs : List Blossom
  bs = b ∷ older

  iu : (e : ℕ) → IsEdgeNumber g e → is_vertex n (edge_of g e).u ≡ true
  iu e is = u_vertex g e ends is

  iv : (e : ℕ) → IsEdgeNumber g e → is_vertex n (edge_of g e).v ≡ true
  iv e is = v_vertex g e ends is

  came_in : (v : ℕ) → is_vertex n v ≡ true → in_ring b.ring (outermost older v) ≡ true → outermost bs v ≡ b.node
  came_in v is r = grind (arith, nat_tests, member_by_ring n older b v nested is)

  same_before : (u v : ℕ) → is_vertex n u ≡ true → is_vertex n v ≡ true → outermost older u ≡ outermost older v → outermost bs u ≡ outermost bs v
  same_before u v is_u is_v e = grind (arith, nat_tests, member_by_ring n older b u nested is_u, member_by_ring n older b v nested is_v)

  -- an edge of the ring has both ends in the blossom
  record IsWithin (e : ℕ) : Type 0 where
    number : IsEdgeNumber g e
    u_in : outermost bs (edge_of g e).u ≡ b.node
    v_in : outermost bs (edge_of g e).v ≡ b.node

  ring_ends : (ls : List Link) (z : ℕ) → in_ring b.ring z ≡ true → AllByRecursion (λ (l : Link). in_ring b.ring l.node ≡ true) ls → IsChainTo g older ls z
      → AllByRecursion (λ (l : Link). IsWithin l.edge) ls
  ring_ends [] z rz inside chain = tt
  ring_ends (l ∷ ls) z rz inside chain =
      let e = edge_of g l.edge in let in_u = came_in e.u (iu l.edge chain.0) in
      let in_v = came_in e.v (iv l.edge chain.0) in let next = next_in ls inside.1 in
      (record { number = chain.0; u_in = grind (arith, chain.1); v_in = grind (arith, chain.1) }, ring_ends ls z rz inside.1 chain.2)
    where
      next_in : (js : List Link) → AllByRecursion (λ (l : Link). in_ring b.ring l.node ≡ true) js → in_ring b.ring (next_node js z) ≡ true
      next_in [] each = rz
      next_in (j ∷ js) each = each.0

  all_within : AllByRecursion (λ (l : Link). IsWithin l.edge) b.ring
  all_within = by_ring b.ring (all_inside b.ring) nested.0.circuit.at_least_three ring
    where
      by_ring : (ls : List Link) → AllByRecursion (λ (l : Link). in_ring b.ring l.node ≡ true) ls → 3 ≤ length ls → IsChainTo g older ls (next_node ls 0)
          → AllByRecursion (λ (l : Link). IsWithin l.edge) ls
      by_ring [] inside len chain = absurd (omega (arith, len))
      by_ring (l ∷ ls) inside len chain = ring_ends (l ∷ ls) l.node inside.0 inside chain

  stays_in : (x : ℕ → Bool) → ((u v : ℕ) → is_vertex n u ≡ true → is_vertex n v ≡ true → outermost bs u ≡ outermost bs v → x u ≡ x v) → (e0 : ℕ)
      → (ls : List Link) → AllByRecursion (λ (l : Link). IsWithin l.edge) ls → AllByRecursion (λ (l : Link). leaves x (edge_of g l.edge) ≡ true → l.edge ≡ e0) ls
  stays_in x whole e0 [] each = tt
  stays_in x whole e0 (l ∷ ls) each =
      let e = edge_of g l.edge in
      let same = whole e.u e.v (iu l.edge each.0.number) (iv l.edge each.0.number) (each.0.u_in ∙ sym each.0.v_in) in
      (λ out. grind (arith, nat_tests), stays_in x whole e0 ls each.1)

  -- a set that is left once stays so
  pub left_stays : (x : ℕ → Bool) → IsLeftOnce g bs m x → IsLeftOnce g older m' x
  left_stays x l =
      let still = used_still g b older m m' nested ends ring mated inner h l.node l.edge l.node_is l.taken in
      record {
        whole = λ u v is_u is_v e. l.whole u v is_u is_v (same_before u v is_u is_v e);
        edge = l.edge;
        node = still.0;
        node_is = still.1;
        taken = still.2;
        leaves_it = l.leaves_it;
        only = used_stays g b older m m' nested ends ring mated inner h (λ f. leaves x (edge_of g f) ≡ true → f ≡ l.edge) (stays_in x l.whole l.edge b.ring all_within) l.only;
      }

  abbrev inside : ℕ → Bool
  inside v = holds b.members v

  by_outer : (v : ℕ) → outermost bs v ≢ b.node → inside v ≡ false
  by_outer v ne = grind (arith, nat_tests)

  by_node : (v : ℕ) → is_vertex n v ≡ true → outermost bs v ≡ b.node → inside v ≡ true
  by_node v is e = grind (arith, nat_tests, outermost_node n older v is, nested.0.fresh)

  whole_first : (u v : ℕ) → is_vertex n u ≡ true → is_vertex n v ≡ true → outermost bs u ≡ outermost bs v → inside u ≡ inside v
  whole_first u v is_u is_v e = grind (arith, nat_tests, by_node u is_u, by_node v is_v, by_outer u, by_outer v)

  -- a mate of two nodes that aren't the blossom doesn't leave it
  not_left : (c f d : ℕ) → IsPair g bs m c f d → c ≢ b.node → d ≢ b.node → leaves inside (edge_of g f) ≡ true → ⊥
  not_left c f d w nc nd out =
      let e = edge_of g f in
      grind (arith, nat_tests, by_outer e.u, by_outer e.v, w.joins)

  -- the blossom itself is left by its own mate alone, where it has one
  pub first_left : (e : ℕ) → m b.node ≡ Some e → IsLeftOnce g bs m inside
  first_left e mate =
      let outer = first_outer g b older m m' nested ends ring mated inner h in
      let p = mated b.node e outer mate in let x = edge_of g e in
      record {
        whole = whole_first;
        edge = e;
        node = b.node;
        node_is = outer;
        taken = mate;
        leaves_it = grind (arith, nat_tests, by_node x.u (iu e p.1.edge), by_node x.v (iv e p.1.edge), by_outer x.u, by_outer x.v, p.1.different, p.1.joins);
        only = λ c f is has out.
            let r = mated c f is has in
            let same : c ≡ b.node → f ≡ e = λ q. same_Some f e (sym has ∙ ap m q ∙ mate) in
            let back : r.0 ≡ b.node → f ≡ e = λ q. same_Some f e (sym r.1.back ∙ ap m q ∙ mate) in
            grind (arith, nat_tests, not_left c f r.0 r.1);
      }
