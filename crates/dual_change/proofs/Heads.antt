-- The components that a removed set leaves can be counted: each has a least vertex.
use Rattle.alt_forest.proofs.Common.{◌≡◌, ℕ, ◌≤◌, ◌%◌, Bool, true, false, ◌&&◌, not, eqb, List, length, slice_index, refl, sym, ap, ◌∙◌, subst, arith, filter}
use Rattle.alt_forest.proofs.Common.{range_with_len, nat_tests, Multigraph, IsGraph, edge_of, holds, AreTogether, IsOddHead, IsOddCount, holds_place, holds_first, least_first, same_length}
use Rattle.alt_forest.proofs.Common.{touches-u, other_end-u, together-refl, together-trans, together-sym, together-edge, together-free, together-free_start, together-within, closed_has}
use Rattle.alt_forest.proofs.Common.{component_from, component-outside, component-within, is_vertex, vertex_range, range_vertex, picked_ascends, holds-picked, picked_set}
use Rattle.dual_change.proofs.Reps.{rep, rep_low, rep_edge, rep_related}

module _ (g : Multigraph) (removed : List ℕ) (graph : IsGraph g) where
  -- the least vertex of a vertex' component
  abbrev pub head_of : ℕ → ℕ
  head_of v = rep (holds removed) g.edges v

  -- vertices on one side of the removed set, together outside it
  abbrev Hang : ℕ → ℕ → Type 0
  Hang u v = (holds removed u ≡ holds removed v) × (holds removed u ≡ false → AreTogether g removed u v)

  head_hangs : (v : ℕ) → Hang (head_of v) v
  head_hangs = rep_related g (holds removed) Hang
      (λ u. (refl, λ free. together-refl g removed u free))
      (λ u v p. (sym p.0, λ free. together-sym g removed u v graph.ends (p.1 (p.0 ∙ free))))
      (λ u v w p q. (p.0 ∙ q.0, λ free. together-trans g removed u v w (p.1 free) (q.1 (sym p.0 ∙ free))))
      (λ e is fu fv. (fu ∙ sym fv, λ _. together-edge g removed e (edge_of g e).u (edge_of g e).v is (touches-u (edge_of g e)) (other_end-u (edge_of g e)) fu fv))

  pub head_together : (v : ℕ) → holds removed v ≡ false → AreTogether g removed (head_of v) v
  head_together v free = let p = head_hangs v in p.1 (p.0 ∙ free)

  -- vertices together have one head
  pub same_head : (v w : ℕ) → AreTogether g removed v w → head_of w ≡ head_of v
  same_head v w a =
      let marked : ℕ → Bool = λ x. not (holds removed x) && eqb (head_of x) (head_of v) in
      let has = closed_has g removed marked v w (λ e x is meets m fo. grind (arith, nat_tests, rep_edge g (holds removed) e is))
      (grind (arith, nat_tests, together-free_start g removed v w a)) a in
      grind (arith, nat_tests)

  -- the vertices outside the removed set whose head is h
  abbrev pub class_of : ℕ → List ℕ
  class_of h = filter (λ w. not (holds removed w) && eqb (head_of w) h) (range_with_len 1 g.vertices)

  pub record InClass (h w : ℕ) : Type 0 where
    pub vertex : is_vertex g.vertices w ≡ true
    pub free : holds removed w ≡ false
    pub head : head_of w ≡ h

  pub in_class : (h w : ℕ) → holds (class_of h) w ≡ true → InClass h w
  in_class h w m =
      let p = sym (holds-picked g.vertices (λ x. not (holds removed x) && eqb (head_of x) h) w) ∙ m in
      record { vertex = grind (arith, nat_tests); free = grind (arith, nat_tests); head = grind (arith, nat_tests) }

  pub of_class : (h w : ℕ) → InClass h w → holds (class_of h) w ≡ true
  of_class h w c = grind (arith, nat_tests, holds-picked g.vertices (λ x. not (holds removed x) && eqb (head_of x) h) w)

  -- the heads of components of odd size
  abbrev pub is_odd_head : ℕ → Bool
  is_odd_head v = not (holds removed v) && (eqb (head_of v) v && eqb (length (class_of v) % 2) 1)

  abbrev pub odd_heads : List ℕ
  odd_heads = filter is_odd_head (range_with_len 1 g.vertices)

  pub record HeadsOdd (v : ℕ) : Type 0 where
    pub vertex : is_vertex g.vertices v ≡ true
    pub free : holds removed v ≡ false
    pub own : head_of v ≡ v
    pub odd : length (class_of v) % 2 ≡ 1

  in_heads : (v : ℕ) → holds odd_heads v ≡ true → HeadsOdd v
  in_heads v m =
      let p = sym (holds-picked g.vertices is_odd_head v) ∙ m in
      record { vertex = grind (arith, nat_tests); free = grind (arith, nat_tests); own = grind (arith, nat_tests); odd = grind (arith, nat_tests) }

  pub of_heads : (v : ℕ) → HeadsOdd v → holds odd_heads v ≡ true
  of_heads v h = grind (arith, nat_tests, holds-picked g.vertices is_odd_head v)

  -- a class is what is together with its head
  class_together : (v w : ℕ) → HeadsOdd v → holds (class_of v) w ≡ true → AreTogether g removed v w
  class_together v w h m = let c = in_class v w m in subst (λ x. AreTogether g removed x w) c.head (head_together w c.free)

  together_class : (v w : ℕ) → is_vertex g.vertices v ≡ true → head_of v ≡ v → AreTogether g removed v w → holds (class_of v) w ≡ true
  together_class v w iv own a =
      let range = together-within g removed v w graph.ends (vertex_range g.vertices v iv) a in
      of_class v w (record { vertex = range_vertex g.vertices w range.0 range.1; free = together-free g removed v w a; head = same_head v w a ∙ own })

  pub heads_odd : (v : ℕ) → holds odd_heads v ≡ true → IsOddHead g removed v
  heads_odd v m =
      let h = in_heads v m in
      let set = picked_set g.vertices (λ w. not (holds removed w) && eqb (head_of w) v) in
      let own : holds (class_of v) v ≡ true = of_class v v (record { vertex = h.vertex; free = h.free; head = h.own }) in
      let first : slice_index (class_of v) 0 ≤ v = least_first (class_of v) v set.ascending own in
      let some = holds_place (class_of v) v own in
      let there = in_class v (slice_index (class_of v) 0) (holds_first (class_of v) (omega (arith, some.1))) in
      let low : head_of (slice_index (class_of v) 0) ≤ slice_index (class_of v) 0 = rep_low (holds removed) g.edges (slice_index (class_of v) 0) in
      let at : slice_index (class_of v) 0 ≡ v = omega (arith, first, low, there.head) in
      (class_of v, component_from g removed (class_of v) v graph.ends set own (λ w. class_together v w h) (λ w. together_class v w h.vertex h.own), h.odd, at)

  odd_head : (v : ℕ) → IsOddHead g removed v → holds odd_heads v ≡ true
  odd_head v o =
      let c : List ℕ = o.0 in let is = o.1 in
      let here : holds c v ≡ true = subst (λ x. holds c x ≡ true) o.3 (holds_first c is.some) in
      let free = component-outside g removed c v is here in
      let range = component-within g removed c v is here in
      let iv : is_vertex g.vertices v ≡ true = range_vertex g.vertices v range.0 range.1 in
      let head_in : holds c (head_of v) ≡ true = is.whole v (head_of v) here (together-sym g removed (head_of v) v graph.ends (head_together v free)) in
      let least : slice_index c 0 ≤ head_of v = least_first c (head_of v) is.vertices.ascending head_in in
      let low : head_of v ≤ v = rep_low (holds removed) g.edges v in
      let own : head_of v ≡ v = omega (arith, least, low, o.3) in
      let set = picked_set g.vertices (λ w. not (holds removed w) && eqb (head_of w) v) in
      let size : length (class_of v) ≡ length c = same_length g.vertices (class_of v) c set.ascending is.vertices.ascending set.in_range is.vertices.in_range
      (λ w m. let k = in_class v w m in is.whole v w here (subst (λ x. AreTogether g removed x w) k.head (head_together w k.free)))
      (λ w m. together_class v w iv own (is.joined v w here m)) in
      of_heads v (record { vertex = iv; free = free; own = own; odd = ap (λ k. k % 2) size ∙ o.2 })

  pub counted : IsOddCount g removed (length odd_heads)
  counted = record { heads = odd_heads; ascending = picked_ascends g.vertices is_odd_head; exact = λ v. (heads_odd v, odd_head v); size = refl }
