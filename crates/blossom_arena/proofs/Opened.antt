-- The nodes of a ring come out as outermost nodes where their blossom is taken away.
use Rattle.graph_theory.proofs.Common.{nat_tests, ◌≡◌, ℕ, ◌≢◌, true, false, eqb, List, [], ◌∷◌, refl, arith, both_ways, flat_map-cons, holds}
use Rattle.blossom_arena.specs.declared.links.Link.{Link}
use Rattle.blossom_arena.specs.Family.{Blossom, in_ring, names_of, is_vertex, is_child, is_outermost, outermost, members_of, union_of, ring_of, without, IsNested}
use Rattle.blossom_arena.specs.Fields.{parent_of}
use Rattle.blossom_arena.proofs.Nested.{new_free, child_is_node}
use Rattle.blossom_arena.proofs.Sets.{outermost_has, outermost_by_member}
use Rattle.blossom_arena.proofs.Parents.{ring_child}
use Rattle.blossom_arena.proofs.Taken.{node_without, members_without, nested_without, outermost_stays, parent_without}

union_past : (b : Blossom) (older : List Blossom) (ring : List Link) → in_ring ring b.node ≡ false → union_of (b ∷ older) ring ≡ union_of older ring
union_past b older [] out = refl
union_past b older (l ∷ ring) out = grind (
  arith,
  nat_tests,
  flat_map-cons (λ (l : Link). members_of (b ∷ older) l.node) l ring,
  flat_map-cons (λ (l : Link). members_of older l.node) l ring,
  union_past b older ring,
)

-- a blossom's vertices are those of its ring
pub ring_members : (n : ℕ) (bs : List Blossom) (a : ℕ) → IsNested n bs → holds (names_of bs) a ≡ true → members_of bs a ≡ union_of bs (ring_of bs a)
ring_members n [] a h k = absurd (both_ways false refl k)
ring_members n (b ∷ older) a h k = grind (
  arith,
  nat_tests,
  h.0.union,
  new_free n b older h,
  union_past b older b.ring,
  union_past b older (ring_of older a),
  ring_members n older a h.1,
  ring_child older a b.node,
)

pub child_parent : (n : ℕ) (bs : List Blossom) (x : ℕ) → IsNested n bs → is_child bs x ≡ true → parent_of bs x ≢ 0
child_parent n [] x h e z = both_ways false refl e
child_parent n (b ∷ older) x h e z = grind (arith, nat_tests, h.0.after_vertices, child_parent n older x h.1)

pub ring_other : (bs : List Blossom) (a c : ℕ) → is_child bs a ≡ false → in_ring (ring_of bs a) c ≡ true → eqb a c ≡ false
ring_other bs a c free r = grind (arith, nat_tests, ring_child bs a c r)

pub child_outer : (n : ℕ) (bs : List Blossom) (a c : ℕ) → IsNested n bs → is_child bs a ≡ false → in_ring (ring_of bs a) c ≡ true → is_outermost n (without bs a) c ≡ true
child_outer n bs a c h free r = grind (
  arith,
  nat_tests,
  node_without n bs a c (ring_other bs a c free r),
  child_is_node n bs c h (ring_child bs a c r),
  child_parent n (without bs a) c (nested_without n bs a h free),
  parent_without n bs a c h,
)

-- the other vertices keep their outermost node
pub outermost_without : (n : ℕ) (bs : List Blossom) (a v : ℕ) → IsNested n bs → is_child bs a ≡ false → is_vertex n v ≡ true → holds (members_of bs a) v ≡ false
    → outermost (without bs a) v ≡ outermost bs v
outermost_without n bs a v h free iv m =
    let has = outermost_has n bs v h iv in
    let ne : eqb a (outermost bs v) ≡ false = grind (arith, nat_tests, has.1) in
    outermost_by_member n (without bs a) (outermost bs v) v (nested_without n bs a h free) (outermost_stays n bs a (outermost bs v) ne has.0)
    (grind (arith, members_without bs a (outermost bs v) ne, has.1))
