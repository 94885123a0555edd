-- Tight edges join vertices of one parity, so a node has one parity, and a tree.
use Rattle.graph_theory.proofs.Common.{◌≡◌, ℕ, ◌≤◌, ℤ, pos, ◌+ℤ◌, ◌-ℤ◌, ◌*ℤ◌, Bool, true, false, not, eqb, cond, List, [], ◌∷◌, length, refl, sym, ap}
use Rattle.graph_theory.proofs.Common.{◌∙◌, subst, arith, ⊎_elim, AllByRecursion, ints, both_ways, eqb-true, eq-eqb, or_cases, or_left, Multigraph, IsGraph, IsEdgeNumber, edge_of}
use Rattle.graph_theory.proofs.Common.{holds}
use Rattle.graph_theory.specs.declared.edge.Edge.{Edge}
use Rattle.blossom_arena.specs.declared.links.Link.{Link}
use Rattle.blossom_arena.specs.Family.{Blossom, outermost, is_node, in_ring, IsNested, is_vertex, members_of}
use Rattle.blossom_arena.specs.Slack.{duals_across}
use Rattle.blossom_arena.proofs.Lists.{first_in}
use Rattle.blossom_arena.proofs.Ends.{u_vertex, v_vertex}
use Rattle.blossom_arena.proofs.Sets.{member_by_ring, outermost_node, members_some, member_vertex}
use Rattle.alt_forest.specs.State.{State, Joins, slack_of, next_node, IsChainTo, IsRing, HasRings, IsSearchState}
use Rattle.alt_forest.specs.Trees.{SameParity, dual_sum, held_by}
use Rattle.alt_forest.proofs.Tight.{each_kept}

pub parity_refl : (x : ℤ) → SameParity x x
parity_refl x = (pos 0, omega (arith, ints))

pub parity_sym : (x y : ℤ) → SameParity x y → SameParity y x
parity_sym x y p = let k : ℤ = p.0 in let e : x ≡ y +ℤ (k +ℤ k) = p.1 in (pos 0 -ℤ k, omega (arith, ints))

pub parity_trans : (x y z : ℤ) → SameParity x y → SameParity y z → SameParity x z
parity_trans x y z p q =
    let k : ℤ = p.0 in let l : ℤ = q.0 in let e : x ≡ y +ℤ (k +ℤ k) = p.1 in let f : y ≡ z +ℤ (l +ℤ l) = q.1 in (k +ℤ l, omega (arith, ints))

-- a set that holds both ends counts twice in the sums and not in the duals across
across_parity : (y : ℕ → ℤ) (bs : List Blossom) (e : Edge) → SameParity (duals_across y bs e) ((y e.u +ℤ held_by y bs e.u) +ℤ (y e.v +ℤ held_by y bs e.v))
across_parity y [] e = (pos 0, omega (arith, ints))
across_parity y (b ∷ older) e =
    let r = across_parity y older e in
    by_tests (y b.node) (duals_across y older e) (y e.u) (y e.v) (held_by y older e.u) (held_by y older e.v) r.0 r.1 (holds b.members e.u) (holds b.members e.v)
  where
    by_tests : (z p yu yv c d k : ℤ) → p ≡ ((yu +ℤ c) +ℤ (yv +ℤ d)) +ℤ (k +ℤ k) → (i j : Bool)
        → SameParity (cond (cond i (not j) j) z (pos 0) +ℤ p) ((yu +ℤ (cond i z (pos 0) +ℤ c)) +ℤ (yv +ℤ (cond j z (pos 0) +ℤ d)))
    by_tests z p yu yv c d k e true true = (k -ℤ z, omega (arith, ints))
    by_tests z p yu yv c d k e true false = (k, omega (arith, ints))
    by_tests z p yu yv c d k e false true = (k, omega (arith, ints))
    by_tests z p yu yv c d k e false false = (k, omega (arith, ints))

-- twice a weight, or nothing, is even
even : (w : Bool) (x : ℤ) → SameParity (cond w (pos 2 *ℤ x) (pos 0)) (pos 0)
even true x = (x, omega (arith, ints))
even false x = (pos 0, omega (arith, ints))

-- slack has the parity of the dual sums of its two ends
pub slack_parity : (s : State) (e : ℕ) → SameParity (slack_of s e) (dual_sum s (edge_of s.graph e).u +ℤ dual_sum s (edge_of s.graph e).v)
slack_parity s e =
    let p = across_parity s.dual s.blossoms (edge_of s.graph e) in let d = even s.weighted (edge_of s.graph e).w in
    plain (cond s.weighted (pos 2 *ℤ (edge_of s.graph e).w) (pos 0)) (duals_across s.dual s.blossoms (edge_of s.graph e)) (dual_sum s (edge_of s.graph e).u)
    (dual_sum s (edge_of s.graph e).v) p.0 d.0 p.1 d.1
  where
    plain : (w p c d k l : ℤ) → p ≡ (c +ℤ d) +ℤ (k +ℤ k) → w ≡ pos 0 +ℤ (l +ℤ l) → SameParity (w -ℤ p) (c +ℤ d)
    plain w p c d k l e f = ((l -ℤ k) -ℤ (c +ℤ d), omega (arith, ints))

-- a tight edge joins vertices of one parity
pub tight_parity : (s : State) (e : ℕ) → slack_of s e ≡ pos 0 → SameParity (dual_sum s (edge_of s.graph e).u) (dual_sum s (edge_of s.graph e).v)
tight_parity s e t = let p = slack_parity s e in plain (slack_of s e) (dual_sum s (edge_of s.graph e).u) (dual_sum s (edge_of s.graph e).v) p.0 p.1 t
  where
    plain : (x c d k : ℤ) → x ≡ (c +ℤ d) +ℤ (k +ℤ k) → x ≡ pos 0 → SameParity c d
    plain x c d k e f = ((pos 0 -ℤ k) -ℤ d, omega (arith, ints))

-- an edge whose ends are of one parity has even slack
pub even_slack : (s : State) (e : ℕ) → SameParity (dual_sum s (edge_of s.graph e).u) (dual_sum s (edge_of s.graph e).v) → SameParity (slack_of s e) (pos 0)
even_slack s e q = let p = slack_parity s e in plain (slack_of s e) (dual_sum s (edge_of s.graph e).u) (dual_sum s (edge_of s.graph e).v) p.0 q.0 p.1 q.1
  where
    plain : (x c d k l : ℤ) → x ≡ (c +ℤ d) +ℤ (k +ℤ k) → c ≡ d +ℤ (l +ℤ l) → SameParity x (pos 0)
    plain x c d k l e f = ((d +ℤ l) +ℤ k, omega (arith, ints))

-- A relation of vertices that the edges of rings keep relates all vertices of one node.
module _ (g : Multigraph) (R : ℕ → ℕ → Type 0) (same : (u : ℕ) → R u u) (turn : (u v : ℕ) → R u v → R v u)
    (join : (u v w : ℕ) → R u v → R v w → R u w) (graph : IsGraph g) where
  abbrev pub Keeps : Link → Type 0
  Keeps l = R (edge_of g l.edge).u (edge_of g l.edge).v

  abbrev pub IsOneClass : List Blossom → Type 0
  IsOneClass bs = (u v : ℕ) → is_vertex g.vertices u ≡ true → is_vertex g.vertices v ≡ true → outermost bs u ≡ outermost bs v → R u v

  -- an edge that joins two nodes relates their vertices
  pub hop : (bs : List Blossom) (e a b : ℕ) → IsOneClass bs → IsEdgeNumber g e → Joins g bs e a b → R (edge_of g e).u (edge_of g e).v
      → (u v : ℕ) → is_vertex g.vertices u ≡ true → is_vertex g.vertices v ≡ true → outermost bs u ≡ a → outermost bs v ≡ b → R u v
  hop bs e a b one is j r u v iu iv eu ev =
      ⊎_elim
      (λ p. join u _ v (one u (edge_of g e).u iu (u_vertex g e graph.ends is) (eu ∙ sym p.0)) (join _ _ v r (one (edge_of g e).v v (v_vertex g e graph.ends is) iv (p.1 ∙ sym ev))))
      (λ p. join u _ v (one u (edge_of g e).v iu (v_vertex g e graph.ends is) (eu ∙ sym p.1))
      (join _ _ v (turn _ _ r) (one (edge_of g e).u v (u_vertex g e graph.ends is) iv (p.0 ∙ sym ev))))
      j

  at_next : (bs : List Blossom) (z x : ℕ) → IsOneClass bs → is_vertex g.vertices x ≡ true → outermost bs x ≡ z → (ks : List Link)
      → ((w : ℕ) → is_vertex g.vertices w ≡ true → in_ring ks (outermost bs w) ≡ true → R w x) → (w : ℕ) → is_vertex g.vertices w ≡ true
      → outermost bs w ≡ next_node ks z → R w x
  at_next bs z x one ix ex [] h w iw e = one w x iw ix (e ∙ sym ex)
  at_next bs z x one ix ex (k ∷ ks) h w iw e = h w iw (or_left (eqb k.node (outermost bs w)) (in_ring ks (outermost bs w)) (eq-eqb k.node (outermost bs w) (sym e)))

  along : (bs : List Blossom) (z x : ℕ) → IsOneClass bs → is_vertex g.vertices x ≡ true → outermost bs x ≡ z → (ring : List Link)
      → IsChainTo g bs ring z → AllByRecursion Keeps ring
      → (v : ℕ) → is_vertex g.vertices v ≡ true → in_ring ring (outermost bs v) ≡ true → R v x
  along bs z x one ix ex [] chain keeps v iv r = absurd (both_ways false refl r)
  along bs z x one ix ex (l ∷ rest) chain keeps v iv r =
      let later : (w : ℕ) → is_vertex g.vertices w ≡ true → in_ring rest (outermost bs w) ≡ true → R w x = λ y iy ry. along bs z x one ix ex rest chain.2 keeps.1 y iy ry in
      ⊎_elim
      (λ here.
      let at : outermost bs v ≡ l.node = sym (eqb-true l.node (outermost bs v) here) in
      ⊎_elim
      (λ p. join v _ x (one v (edge_of g l.edge).u iv (u_vertex g l.edge graph.ends chain.0) (at ∙ sym p.0))
      (join _ _ x keeps.0 (at_next bs z x one ix ex rest later (edge_of g l.edge).v (v_vertex g l.edge graph.ends chain.0) p.1)))
      (λ p. join v _ x (one v (edge_of g l.edge).v iv (v_vertex g l.edge graph.ends chain.0) (at ∙ sym p.1))
      (join _ _ x (turn _ _ keeps.0) (at_next bs z x one ix ex rest later (edge_of g l.edge).u (u_vertex g l.edge graph.ends chain.0) p.0)))
      chain.1)
      (λ more. later v iv more)
      (or_cases (eqb l.node (outermost bs v)) (in_ring rest (outermost bs v)) r)

  round : (bs : List Blossom) → IsOneClass bs → (ring : List Link) → IsRing g bs ring → AllByRecursion Keeps ring
      → (u v : ℕ) → is_vertex g.vertices u ≡ true → is_vertex g.vertices v ≡ true → in_ring ring (outermost bs u) ≡ true → in_ring ring (outermost bs v) ≡ true → R u v
  round bs one [] chain keeps u v iu iv ru rv = absurd (both_ways false refl ru)
  round bs one (l ∷ rest) chain keeps u v iu iv ru rv =
      ⊎_elim
      (λ p. by_start (edge_of g l.edge).u (u_vertex g l.edge graph.ends chain.0) p.0)
      (λ p. by_start (edge_of g l.edge).v (v_vertex g l.edge graph.ends chain.0) p.1)
      chain.1
    where
      by_start : (x : ℕ) → is_vertex g.vertices x ≡ true → outermost bs x ≡ l.node → R u v
      by_start x ix ex =
          join u x v (along bs l.node x one ix ex (l ∷ rest) chain keeps u iu ru)
          (turn v x (along bs l.node x one ix ex (l ∷ rest) chain keeps v iv rv))

  class_step : (b : Blossom) (older : List Blossom) → IsNested g.vertices (b ∷ older) → HasRings g (b ∷ older) → AllByRecursion Keeps b.ring → IsOneClass older
      → (u v : ℕ) → is_vertex g.vertices u ≡ true → is_vertex g.vertices v ≡ true → (p q : Bool) → in_ring b.ring (outermost older u) ≡ p
      → in_ring b.ring (outermost older v) ≡ q
      → cond p b.node (outermost older u) ≡ cond q b.node (outermost older v) → R u v
  class_step b older h rings keeps before u v iu iv true true ru rv e = round older before b.ring rings.0 keeps u v iu iv ru rv
  class_step b older h rings keeps before u v iu iv true false ru rv e = absurd (both_ways (is_node g.vertices older b.node) h.0.fresh
      (ap (is_node g.vertices older) e ∙ outermost_node g.vertices older v iv))
  class_step b older h rings keeps before u v iu iv false true ru rv e = absurd (both_ways (is_node g.vertices older b.node) h.0.fresh
      (ap (is_node g.vertices older) (sym e) ∙ outermost_node g.vertices older u iu))
  class_step b older h rings keeps before u v iu iv false false ru rv e = before u v iu iv e

  pub one_class : (bs : List Blossom) → IsNested g.vertices bs → HasRings g bs → AllByRecursion (λ (b : Blossom). AllByRecursion Keeps b.ring) bs → IsOneClass bs
  one_class [] h rings keeps u v iu iv e = subst (R u) e (same u)
  one_class (b ∷ older) h rings keeps u v iu iv e =
      class_step b older h rings keeps.0 (one_class older h.1 rings.1 keeps.1) u v iu iv (holds b.members u) (holds b.members v)
      (sym (member_by_ring g.vertices older b u h iu)) (sym (member_by_ring g.vertices older b v h iv)) e

-- the vertices of two nodes have one parity
abbrev pub NodesAgree : State → ℕ → ℕ → Type 0
NodesAgree s a b = (u v : ℕ) → is_vertex s.graph.vertices u ≡ true → is_vertex s.graph.vertices v ≡ true → outermost s.blossoms u ≡ a → outermost s.blossoms v ≡ b
    → SameParity (dual_sum s u) (dual_sum s v)

module _ (s : State) (depth : ℕ → ℕ) (nested : IsNested s.graph.vertices s.blossoms) (graph : IsGraph s.graph) (st : IsSearchState s depth) where
  abbrev Agree : ℕ → ℕ → Type 0
  Agree u v = SameParity (dual_sum s u) (dual_sum s v)

  pub node_parity : (u v : ℕ) → is_vertex s.graph.vertices u ≡ true → is_vertex s.graph.vertices v ≡ true → outermost s.blossoms u ≡ outermost s.blossoms v → Agree u v
  node_parity = one_class s.graph Agree (λ u. parity_refl (dual_sum s u)) (λ u v. parity_sym (dual_sum s u) (dual_sum s v))
      (λ u v w. parity_trans (dual_sum s u) (dual_sum s v) (dual_sum s w)) graph
      s.blossoms nested st.rings (each_kept _ _ (λ (b : Blossom). each_kept _ _ (λ (l : Link) t. tight_parity s l.edge t.tight) b.ring) s.blossoms st.tight_rings)

  -- a tight edge between two nodes: all their vertices have one parity
  pub edge_parity : (e a b : ℕ) → IsEdgeNumber s.graph e → Joins s.graph s.blossoms e a b → slack_of s e ≡ pos 0 → NodesAgree s a b
  edge_parity e a b is j t =
      hop s.graph Agree (λ u. parity_refl (dual_sum s u)) (λ u v. parity_sym (dual_sum s u) (dual_sum s v)) (λ u v w. parity_trans (dual_sum s u) (dual_sum s v) (dual_sum s w)) graph
      s.blossoms e a b node_parity is j (tight_parity s e t)

pub agree_trans : (s : State) (a b c w : ℕ) → is_vertex s.graph.vertices w ≡ true → outermost s.blossoms w ≡ b → NodesAgree s a b → NodesAgree s b c → NodesAgree s a c
agree_trans s a b c w iw ew p q u v iu iv eu ev = parity_trans (dual_sum s u) (dual_sum s w) (dual_sum s v) (p u w iu iw eu ew) (q w v iw iv ew ev)

-- each outermost node has a vertex
pub vertex_of : (n : ℕ) (bs : List Blossom) (a : ℕ) → IsNested n bs → is_node n bs a ≡ true → ((v : ℕ) → holds (members_of bs a) v ≡ true → outermost bs v ≡ a)
    → (v : ℕ) × (is_vertex n v ≡ true) × (outermost bs v ≡ a)
vertex_of n bs a nested node back = by_members (members_of bs a) refl (members_some n bs a nested node)
  where
    by_members : (ms : List ℕ) → members_of bs a ≡ ms → 1 ≤ length ms → (v : ℕ) × (is_vertex n v ≡ true) × (outermost bs v ≡ a)
    by_members [] e some = absurd (omega (arith, some))
    by_members (v ∷ ms) e some =
        let here : holds (members_of bs a) v ≡ true = ap (λ xs. holds xs v) e ∙ first_in v ms in
        (v, member_vertex n bs a v nested node here, back v here)
