-- The sets of vertices where a node gives those of its ring back.
use Rattle.graph_theory.proofs.Common.{nat_tests, ◌≡◌, ℕ, true, false, eqb, cond, List, refl, sym, ap, ◌∙◌, subst, arith, ℤ, pos, neg_ℤ, ◌+ℤ◌, ◌-ℤ◌}
use Rattle.graph_theory.proofs.Common.{int_wrap, ints, eqb-true, both_ways, holds}
use Rattle.std.specs.Int.{w64}
use Rattle.blossom_arena.proofs.Older.{ring_new}
use Rattle.blossom_arena.specs.declared.links.Link.{Link}
use Rattle.blossom_arena.specs.Family.{Blossom, dual_at, in_ring, is_child, is_node, is_outermost, is_vertex, members_of, names_of, nodes_of, outermost, ring_of, union_of, without, IsNested}
use Rattle.blossom_arena.specs.Fields.{inner_of, IsPlacement}
use Rattle.blossom_arena.specs.Placement.{Placement, Spread, given, heir_of, letting_out, released}
use Rattle.blossom_arena.proofs.Held.{inner_dissolved}
use Rattle.blossom_arena.proofs.Lists.{by_test, AllNew}
use Rattle.blossom_arena.proofs.Nested.{child_is_node, name_is_node}
use Rattle.blossom_arena.proofs.Opened.{child_outer, outermost_without, ring_members, ring_other}
use Rattle.blossom_arena.proofs.Parents.{ring_child}
use Rattle.blossom_arena.proofs.Sets.{in_union, members_new, of_union, outermost_by_member, outermost_has, outermost_node}
use Rattle.blossom_arena.proofs.Spreads.{heir_is, in_at, out_at, top_in, top_is}
use Rattle.blossom_arena.proofs.Taken.{members_without, nested_without}
use Rattle.blossom_arena.proofs.Cores.{HasCores, set_of, wrapped, HasPlace, each_placed}

-- a node of dual 0 gives the nodes of its ring their vertices back: that of its own core keeps the set
module _ (n : ℕ) (bs : List Blossom) (core_of now : ℕ → ℕ) (ys : List ℤ) (p : Placement) (node core : ℕ) (vertices : ℕ → List ℕ)
    (nested : IsNested n bs) (cores : HasCores n bs core_of) (named : holds (names_of bs) node ≡ true) (free : is_child bs node ≡ false)
    (h : IsPlacement n core_of bs (dual_at ys) p) (lists : (x : ℕ) → in_ring (ring_of bs node) x ≡ true → vertices x ≡ members_of bs x)
    (same : (x : ℕ) → eqb node x ≡ false → now x ≡ core_of x) (is : core ≡ core_of node) (none : dual_at ys node ≡ pos 0) where
  abbrev y : ℕ → ℤ
  y = dual_at ys

  abbrev ring : List Link
  ring = ring_of bs node

  abbrev left : List Blossom
  left = without bs node

  abbrev w : Spread
  w = letting_out vertices now y core

  abbrev parted : Placement
  parted = released vertices now y core p (nodes_of ring)

  abbrev heir : ℕ
  heir = heir_of now core 0 (nodes_of ring)

  abbrev let_go : Placement
  let_go = given parted core heir (pos 0 -ℤ y heir)

  is_outer : is_outermost n bs node ≡ true
  is_outer = grind (arith, name_is_node n bs node named, free)

  nested_left : IsNested n left
  nested_left = nested_without n bs node nested free

  is_a_node : (x : ℕ) → in_ring ring x ≡ true → is_node n bs x ≡ true
  is_a_node x r = child_is_node n bs x nested (ring_child bs node x r)

  outer : (x : ℕ) → in_ring ring x ≡ true → is_outermost n left x ≡ true
  outer x r = child_outer n bs node x nested free r

  core_now : (x : ℕ) → in_ring ring x ≡ true → now x ≡ core_of x
  core_now x r = same x (ring_other bs node x free r)

  has_left : (x v : ℕ) → in_ring ring x ≡ true → holds (members_of bs x) v ≡ true → holds (members_of left x) v ≡ true
  has_left x v r m = ap (λ ms. holds ms v) (members_without bs node x (ring_other bs node x free r)) ∙ m

  -- a core tells the child
  by_core : (x v : ℕ) → in_ring ring x ≡ true → now x ≡ v → outermost left v ≡ x
  by_core x v r e =
      outermost_by_member n left x v nested_left (outer x r)
      (has_left x v r (ap (holds (members_of bs x)) (sym e ∙ core_now x r) ∙ cores x (is_a_node x r)))

  one_core : (x z : ℕ) → in_ring ring x ≡ true → in_ring ring z ≡ true → now x ≡ now z → x ≡ z
  one_core x z r t e = sym (by_core x (now z) r e) ∙ by_core z (now z) t refl

  module _ (v : ℕ) (iv : is_vertex n v ≡ true) where
    abbrev o : ℕ
    o = outermost left v

    holder : (x : ℕ) → in_ring ring x ≡ true → holds (vertices x) v ≡ true → o ≡ x
    holder x r m = outermost_by_member n left x v nested_left (outer x r) (has_left x v r (ap (λ vs. holds vs v) (sym (lists x r)) ∙ m))

    union : holds (members_of bs node) v ≡ holds (union_of bs ring) v
    union = ap (λ ms. holds ms v) (ring_members n bs node nested named)

    sums : inner_of y left v ≡ inner_of y bs v +ℤ cond (holds (members_of bs node) v) (neg_ℤ (y o)) (pos 0)
    sums = inner_dissolved n bs v nested iv y node is_outer none

    -- a vertex of a child: the set stays where it has the core, and is the child's own otherwise
    module _ (m : holds (members_of bs node) v ≡ true) where
      child_here : (in_ring ring o ≡ true) × (holds (vertices o) v ≡ true)
      child_here =
          let found = of_union bs ring v (sym union ∙ m) in
          let has : holds (vertices found.node) v ≡ true = ap (λ vs. holds vs v) (lists found.node found.within) ∙ found.has in
          subst (λ x. (in_ring ring x ≡ true) × (holds (vertices x) v ≡ true)) (sym (holder found.node found.within has)) (found.within, has)

      fit : int_wrap w64 (p.inner v +ℤ (pos 0 -ℤ y o)) ≡ int_wrap w64 (inner_of y left v)
      fit =
          let is_now = sums ∙ ap (λ q. inner_of y bs v +ℤ cond q (neg_ℤ (y o)) (pos 0)) m in
          wrapped (p.inner v) (inner_of y bs v) (pos 0 -ℤ y o) (inner_of y left v) (h.inner v iv) (omega (arith, ints, is_now))

      back : HasPlace let_go v o (now o) (int_wrap w64 (inner_of y left v))
      back = by_test (eqb (now o) core)
          (λ keeps.
          let stays = out_at w p (nodes_of ring) v (λ c r moves. grind (arith, nat_tests, holder c r)) in
          let set : parted.set v ≡ core = stays.set ∙ h.sets v iv ∙ ap core_of (outermost_by_member n bs node v nested is_outer m) ∙ sym is in
          let own : heir ≡ o = heir_is now core 0 o (nodes_of ring) child_here.0 keeps (λ c r e. one_core c o r child_here.0 (grind (arith, nat_tests))) in
          record { top = grind (arith, nat_tests, set, own); set = grind (arith, nat_tests, set); inner = grind (arith, nat_tests, set, stays.inner, own, fit) })
          (λ moves.
          let gone = in_at w p (nodes_of ring) v o (ring_new n bs node nested named) child_here.0 moves child_here.1
          (subst AllNew (sym (lists o child_here.0)) (members_new n bs o nested (is_a_node o child_here.0))) (λ c r t. sym (holder c r t)) in
          let top = top_in w p (nodes_of ring) o child_here.0 moves (λ c r away e. one_core c o r child_here.0 (eqb-true (now c) (now o) e)) in
          record { top = grind (arith, nat_tests, gone.set, top); set = gone.set; inner = grind (arith, nat_tests, gone.set, gone.inner, fit) })

    -- any other vertex
    module _ (m : holds (members_of bs node) v ≡ false) where
      outside : (c : ℕ) → in_ring ring c ≡ true → holds (members_of bs c) v ≡ false
      outside c r = grind (arith, union, in_union bs ring c v r, m)

      same_outer : o ≡ outermost bs v
      same_outer = outermost_without n bs node v nested free iv m

      other_set : eqb core (p.set v) ≡ false
      other_set = grind (arith, nat_tests, set_of n bs core_of nested cores y p h node v is_outer iv, is, m, (outermost_has n bs v nested iv).1)

      other_node : eqb node (outermost bs v) ≡ false
      other_node = grind (arith, nat_tests, m, (outermost_has n bs v nested iv).1)

      other_core : (c : ℕ) → in_ring ring c ≡ true → eqb (now c) (p.set v) ≡ false
      other_core c r =
          let has = outermost_has n left v nested_left iv in
          let own : holds (members_of left o) (p.set v) ≡ true =
          grind (arith, same_outer, members_without bs node (outermost bs v) other_node, h.sets v iv, cores (outermost bs v) (outermost_node n bs v iv)) in
          let at = outermost_by_member n left o (p.set v) nested_left has.0 own in
          grind (arith, nat_tests, by_core c (p.set v) r, at, outside c r, members_without bs node c (ring_other bs node c free r), has.1)

      kept : HasPlace let_go v o (now o) (int_wrap w64 (inner_of y left v))
      kept =
          let stays = out_at w p (nodes_of ring) v (λ c r moves. ap (λ vs. holds vs v) (lists c r) ∙ outside c r) in
          let top = top_is w p (nodes_of ring) (p.set v) (outermost bs v) (h.tops v iv) (λ c r moves e. absurd (both_ways (eqb (now c) (p.set v)) (other_core c r) e)) in
          let is_now = sums ∙ ap (λ q. inner_of y bs v +ℤ cond q (neg_ℤ (y o)) (pos 0)) m in
          let still : inner_of y bs v ≡ inner_of y left v = omega (arith, ints, is_now) in
          let same_sum : p.inner v ≡ int_wrap w64 (inner_of y left v) = h.inner v iv ∙ ap (int_wrap w64) still in
          record {
            top = grind (arith, nat_tests, stays.set, other_set, top, same_outer);
            set = stays.set ∙ h.sets v iv ∙ sym (ap now same_outer ∙ same (outermost bs v) other_node);
            inner = grind (arith, nat_tests, stays.set, stays.inner, other_set, same_sum);
          }

  pub placement_dissolved : IsPlacement n now left y let_go
  placement_dissolved = each_placed n now left y let_go (λ v iv. by_test (holds (members_of bs node) v) (back v iv) (kept v iv))
