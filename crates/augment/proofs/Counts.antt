-- Where all blossoms are opened the mates are a matching, a perfect one where each vertex has one, and then each blossom is
-- left once.
use Rattle.alt_forest.proofs.Common.{nat_tests, ◌≡◌, ℕ, ◌+◌, ◌*◌, ◌<◌, ◌≤◌, Bool, true, false, ◌&&◌, eqb, cond, List, [], length, refl, sym, ap, ◌∙◌}
use Rattle.alt_forest.proofs.Common.{subst, arith, ⊎_elim, Option, Some, None, All, slice_index, eqb-true, eqb-false, eq-eqb, and_parts, and_from, both_ways, false_from_ne_true}
use Rattle.alt_forest.proofs.Common.{get_or-map-range_with_len, length-map-range_with_len, Edge, HasNoLoop, Multigraph, IsEdgeWithin, IsEdgeNumber, edge_of, edge_at, touches, degree}
use Rattle.alt_forest.proofs.Common.{IsPerfect, holds, crosses, sum_to-same, sum_to-zero, sum_to-at_one, one_if-most, edge_of-place, number_of-place, degree-touches, is_vertex, is_outermost}
use Rattle.alt_forest.proofs.Common.{by_test, range_vertex, u_vertex, v_vertex}
use Rattle.gallai_theory.specs.Matchings.{IsMatched as IsMatchedBy}
use Rattle.augment.specs.Matching.{is_edge, mate_counts, IsVertexMate, AreVertexMates, leaving}
use Rattle.augment.specs.Opening.{AreMated}
use Rattle.augment.proofs.Left.{IsLeftOnce, leaves}

pub vertex_outer : (n v : ℕ) → is_vertex n v ≡ true → is_outermost n [] v ≡ true
vertex_outer n v iv = rw iv refl

pub is_edge-true : (o : Option ℕ) (e : ℕ) → is_edge o e ≡ true → o ≡ Some e
is_edge-true None e h = absurd (both_ways false refl h)
is_edge-true (Some f) e h = ap (λ x. Some x) (eqb-true f e h)

is_edge-some : (o : Option ℕ) (e : ℕ) → o ≡ Some e → is_edge o e ≡ true
is_edge-some o e h = ap (λ x. is_edge x e) h ∙ eq-eqb e e refl

-- without blossoms mutual mates of nodes are those of vertices
pub vertex_mates : (g : Multigraph) (m : ℕ → Option ℕ) → All (IsEdgeWithin g.vertices) g.edges → AreMated g [] m → AreVertexMates g m
vertex_mates g m ends mated v e iv has =
    let p = (mated v e (vertex_outer g.vertices v iv) has).1 in
    record { edge = e; is_edge = p.edge; has = has; at_v = grind (arith, nat_tests, p.joins); back = grind (arith, nat_tests, p.joins, p.different, p.back) }

module _ (g : Multigraph) (m : ℕ → Option ℕ) (ends : All (IsEdgeWithin g.vertices) g.edges) (mates : AreVertexMates g m) where
  abbrev n : ℕ
  n = g.vertices

  -- an edge is the mate of both of its ends, or of none
  to_v : (e : ℕ) → IsEdgeNumber g e → m (edge_of g e).u ≡ Some e → m (edge_of g e).v ≡ Some e
  to_v e is has = let x = mates (edge_of g e).u e (u_vertex g e ends is) has in grind (arith, nat_tests, x.has, x.back)

  to_u : (e : ℕ) → IsEdgeNumber g e → m (edge_of g e).v ≡ Some e → m (edge_of g e).u ≡ Some e
  to_u e is has = let x = mates (edge_of g e).v e (v_vertex g e ends is) has in grind (arith, nat_tests, x.has, x.back)

  abbrev counts : List ℕ
  counts = mate_counts g m

  count_at : (k : ℕ) → k < length g.edges → slice_index counts k ≡ cond (is_edge (m (edge_at g k).u) (k + 1)) 1 0
  count_at k low = get_or-map-range_with_len (λ e. cond (is_edge (m (edge_of g e).u) e) 1 0) 1 (length g.edges) k (k + 1) 0 low (omega arith)
      ∙ ap (λ (x : Edge). cond (is_edge (m x.u) (k + 1)) 1 0) (edge_of-place g k)

  -- at a vertex its mate alone is counted
  at_vertex : (v : ℕ) (x : IsVertexMate g m v) (k : ℕ) → k < length g.edges → cond (touches (edge_at g k) v) (slice_index counts k) 0 ≡ cond (eqb x.edge (k + 1)) 1 0
  at_vertex v x k low =
      let number : IsEdgeNumber g (k + 1) = number_of-place g k low in let u_has = to_u (k + 1) number in
      let v_has = to_v (k + 1) number in
      grind (arith, nat_tests, count_at k low, edge_of-place g k, x.has, x.at_v, u_has, v_has, is_edge-true (m (edge_at g k).u) (k + 1), is_edge-some (m (edge_at g k).u) (k + 1))

  -- and at a vertex without a mate none is
  at_free : (v : ℕ) → m v ≡ None → (k : ℕ) → k < length g.edges → cond (touches (edge_at g k) v) (slice_index counts k) 0 ≡ 0
  at_free v none k low =
      let number : IsEdgeNumber g (k + 1) = number_of-place g k low in
      grind (arith, nat_tests, count_at k low, edge_of-place g k, to_v (k + 1) number, is_edge-true (m (edge_at g k).u) (k + 1))

  one_each : length counts ≡ length g.edges
  one_each = length-map-range_with_len (λ e. cond (is_edge (m (edge_of g e).u) e) 1 0) 1 (length g.edges)

  at_most_once : All (λ c. c ≤ 1) counts
  at_most_once k d low =
      subst (λ c. c ≤ 1) (sym (get_or-map-range_with_len (λ e. cond (is_edge (m (edge_of g e).u) e) 1 0) 1 (length g.edges) k (k + 1) d (omega (arith, one_each, low)) (omega arith)))
      (one_if-most (is_edge (m (edge_of g (k + 1)).u) (k + 1)))

  -- where no edge is a loop, the degree of a vertex says whether it has a mate
  pub degree-mated : HasNoLoop g → (v : ℕ) → IsVertexMate g m v → degree g counts v ≡ 1
  degree-mated plain v x = degree-touches g counts v plain
      ∙ sum_to-same (λ k. cond (touches (edge_at g k) v) (slice_index counts k) 0) (λ k. cond (eqb x.edge (k + 1)) 1 0) (length g.edges) (at_vertex v x)
      ∙ sum_to-at_one (λ _. 1) x.edge (length g.edges) x.is_edge.0 x.is_edge.1

  pub degree-free : HasNoLoop g → (v : ℕ) → m v ≡ None → degree g counts v ≡ 0
  degree-free plain v none = degree-touches g counts v plain
      ∙ sum_to-same (λ k. cond (touches (edge_at g k) v) (slice_index counts k) 0) (λ k. 0) (length g.edges) (at_free v none) ∙ sum_to-zero (length g.edges)

  -- these edges are a matching
  pub matching : HasNoLoop g → IsMatchedBy g counts
  matching plain = record { one_each = one_each; at_most_once = at_most_once; degrees = λ v low high. by_mate v (range_vertex n v low high) (m v) refl }
    where
      by_mate : (v : ℕ) → is_vertex n v ≡ true → (o : Option ℕ) → m v ≡ o → degree g counts v ≤ 1
      by_mate v iv None none = let d = degree-free plain v none in omega (arith, d)
      by_mate v iv (Some e) has = let d = degree-mated plain v (mates v e iv has) in omega (arith, d)

  -- a perfect one where each vertex has a mate
  pub perfect : HasNoLoop g → ((v : ℕ) → is_vertex n v ≡ true → IsVertexMate g m v) → IsPerfect g counts
  perfect plain all = record { one_each = one_each; at_most_one = at_most_once; degrees = λ v low high. degree-mated plain v (all v (range_vertex n v low high)) }

-- sets that are left once, by mutual mates of nodes
module _ (g : Multigraph) (m : ℕ → Option ℕ) (ends : All (IsEdgeWithin g.vertices) g.edges) (mated : AreMated g [] m) where
  -- a vertex at each edge that is a mate
  taken_at : (x : ℕ → Bool) (l : IsLeftOnce g [] m x) (e : ℕ) → IsEdgeNumber g e → is_edge (m (edge_of g e).u) e ≡ true → leaves x (edge_of g e) ≡ true → e ≡ l.edge
  taken_at x l e is taken out = l.only (edge_of g e).u e (vertex_outer g.vertices (edge_of g e).u (u_vertex g e ends is)) (is_edge-true (m (edge_of g e).u) e taken) out

  left_number : (x : ℕ → Bool) (l : IsLeftOnce g [] m x) → IsEdgeNumber g l.edge × (is_edge (m (edge_of g l.edge).u) l.edge ≡ true)
  left_number x l =
      let p = (mated l.node l.edge l.node_is l.taken).1 in
      (p.edge, is_edge-some (m (edge_of g l.edge).u) l.edge (⊎_elim (λ j. ap m j.0 ∙ l.taken) (λ j. ap m j.0 ∙ p.back) p.joins))

  pub left_once : (set : List ℕ) → IsLeftOnce g [] m (λ v. holds set v) → leaving g (mate_counts g m) set ≡ 1
  left_once set l =
      let is = left_number (λ v. holds set v) l in
      sum_to-same (λ k. slice_index (mate_counts g m) k * cond (crosses set (edge_at g k)) 1 0) (λ k. cond (eqb l.edge (k + 1)) 1 0) (length g.edges) at
      ∙ sum_to-at_one (λ _. 1) l.edge (length g.edges) is.0.0 is.0.1
    where
      product : (p q r : Bool) → (p && q) ≡ r → cond p 1 0 * cond q 1 0 ≡ cond r 1 0
      product p q r e = grind (arith, nat_tests)

      at : (k : ℕ) → k < length g.edges → slice_index (mate_counts g m) k * cond (crosses set (edge_at g k)) 1 0 ≡ cond (eqb l.edge (k + 1)) 1 0
      at k low =
          let number : IsEdgeNumber g (k + 1) = number_of-place g k low in
          let is = left_number (λ v. holds set v) l in
          let both : (is_edge (m (edge_at g k).u) (k + 1) && crosses set (edge_at g k)) ≡ eqb l.edge (k + 1) = by_test (eqb l.edge (k + 1))
          (λ s. let same : l.edge ≡ k + 1 = eqb-true l.edge (k + 1) s in
          let edge : edge_of g l.edge ≡ edge_at g k = ap (edge_of g) same ∙ edge_of-place g k in
          and_from (is_edge (m (edge_at g k).u) (k + 1)) (crosses set (edge_at g k))
          (ap (λ (y : Edge). is_edge (m y.u) (k + 1)) (sym edge) ∙ ap (is_edge (m (edge_of g l.edge).u)) (sym same) ∙ is.1)
          (ap (λ (y : Edge). crosses set y) (sym edge) ∙ l.leaves_it)
          ∙ sym s)
          (λ s. false_from_ne_true (is_edge (m (edge_at g k).u) (k + 1) && crosses set (edge_at g k)) (λ t.
          let p = and_parts (is_edge (m (edge_at g k).u) (k + 1)) (crosses set (edge_at g k)) t in
          eqb-false l.edge (k + 1) s (sym (taken_at (λ v. holds set v) l (k + 1) number (ap (λ (y : Edge). is_edge (m y.u) (k + 1)) (edge_of-place g k) ∙ p.0)
          (ap (λ (y : Edge). crosses set y) (edge_of-place g k) ∙ p.1))))
          ∙ sym s) in
          ap (λ c. c * cond (crosses set (edge_at g k)) 1 0) (count_at g m ends (vertex_mates g m ends mated) k low)
          ∙ product (is_edge (m (edge_at g k).u) (k + 1)) (crosses set (edge_at g k)) (eqb l.edge (k + 1)) both
