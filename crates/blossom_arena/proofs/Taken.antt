-- A nested family where an outermost blossom is taken away.
use Rattle.graph_theory.proofs.Common.{All-from_recursion, nat_tests, ◌≡◌, ℕ, true, false, ◌||◌, eqb, cond, List, [], ◌∷◌, refl, sym, ap, ◌∙◌, subst, arith}
use Rattle.graph_theory.proofs.Common.{AllByRecursion, eqb-false, ne_eqb, or_parts, cond_both, flat_map-cons, holds}
use Rattle.blossom_arena.proofs.LinkLists.{each_link}
use Rattle.blossom_arena.specs.declared.links.Link.{Link}
use Rattle.blossom_arena.specs.Family.{Blossom, in_ring, names_of, is_vertex, is_node, is_child, is_outermost, members_of, union_of, ring_of, without, IsCircuit, IsNested}
use Rattle.blossom_arena.specs.Fields.{parent_of}
use Rattle.blossom_arena.proofs.Lists.{by_test}
use Rattle.blossom_arena.proofs.Nested.{child_free, circuit_outer}
use Rattle.blossom_arena.proofs.Parents.{free_parent, ring_child}

-- what holds of each blossom holds of each that is left
pub each_without : (P : Blossom → Type 0) (bs : List Blossom) (a : ℕ) → AllByRecursion P bs → AllByRecursion P (without bs a)
each_without P [] a each = tt
each_without P (b ∷ older) a each = cond_both (eqb b.node a) older (b ∷ without older a) (AllByRecursion P) (λ e. each.1) (λ e. (each.0, each_without P older a each.1))

-- other names stay
pub names_without : (bs : List Blossom) (a c : ℕ) → eqb a c ≡ false → holds (names_of (without bs a)) c ≡ holds (names_of bs) c
names_without [] a c ne = refl
names_without (b ∷ older) a c ne = grind (arith, nat_tests, names_without older a c ne)

pub node_without : (n : ℕ) (bs : List Blossom) (a c : ℕ) → eqb a c ≡ false → is_node n (without bs a) c ≡ is_node n bs c
node_without n bs a c ne = ap (λ t. is_vertex n c || t) (names_without bs a c ne)

-- what was in no ring stays so
pub child_without : (bs : List Blossom) (a c : ℕ) → is_child (without bs a) c ≡ true → is_child bs c ≡ true
child_without [] a c e = e
child_without (b ∷ older) a c e = grind (arith, nat_tests, child_without older a c)

pub outermost_stays : (n : ℕ) (bs : List Blossom) (a c : ℕ) → eqb a c ≡ false → is_outermost n bs c ≡ true → is_outermost n (without bs a) c ≡ true
outermost_stays n bs a c ne o = grind (arith, nat_tests, node_without n bs a c ne, child_without bs a c)

-- members of other nodes stay
pub members_without : (bs : List Blossom) (a x : ℕ) → eqb a x ≡ false → members_of (without bs a) x ≡ members_of bs x
members_without [] a x ne = refl
members_without (b ∷ older) a x ne = grind (arith, nat_tests, members_without older a x ne)

pub union_without : (bs : List Blossom) (ring : List Link) (a : ℕ) → in_ring ring a ≡ false → union_of (without bs a) ring ≡ union_of bs ring
union_without bs [] a out = refl
union_without bs (l ∷ ring) a out = grind (
  arith,
  nat_tests,
  flat_map-cons (λ (l : Link). members_of (without bs a) l.node) l ring,
  flat_map-cons (λ (l : Link). members_of bs l.node) l ring,
  members_without bs a l.node,
  union_without bs ring a,
)

pub circuit_without : (n : ℕ) (bs : List Blossom) (ring : List Link) (a : ℕ) → IsCircuit n bs ring → in_ring ring a ≡ false → IsCircuit n (without bs a) ring
circuit_without n bs ring a c out = record {
  at_least_three = c.at_least_three;
  odd = c.odd;
  outermost = All-from_recursion _ ring (each_link (λ x. is_outermost n (without bs a) x ≡ true) ring
      (λ x r. let ne : eqb a x ≡ false = grind (arith, nat_tests) in outermost_stays n bs a x ne (circuit_outer n bs ring x c r)));
  different = c.different;
}

pub nested_without : (n : ℕ) (bs : List Blossom) (a : ℕ) → IsNested n bs → is_child bs a ≡ false → IsNested n (without bs a)
nested_without n [] a h out = tt
nested_without n (b ∷ older) a h out =
    let parts : (in_ring b.ring a ≡ false) × (is_child older a ≡ false) = or_parts (in_ring b.ring a) (is_child older a) out in
    by_test (eqb b.node a)
    (λ e. subst (λ q. IsNested n (cond q older (b ∷ without older a))) (sym e) h.1)
    (λ e. subst (λ q. IsNested n (cond q older (b ∷ without older a))) (sym e) (
      record {
        after_vertices = h.0.after_vertices;
        within_room = h.0.within_room;
        fresh = node_without n older a b.node (ne_eqb a b.node (λ s. eqb-false b.node a e (sym s))) ∙ h.0.fresh;
        circuit = circuit_without n older b.ring a h.0.circuit parts.0;
        union = h.0.union ∙ sym (union_without older b.ring a parts.0);
      },
      nested_without n older a h.1 parts.1,
    ))

-- the nodes of the ring lose their parent
pub parent_without : (n : ℕ) (bs : List Blossom) (a x : ℕ) → IsNested n bs → parent_of (without bs a) x ≡ cond (in_ring (ring_of bs a) x) 0 (parent_of bs x)
parent_without n [] a x h = refl
parent_without n (b ∷ older) a x h = grind (arith, nat_tests, parent_without n older a x h.1, free_parent older x, child_free n older b x h.0, ring_child older a x)
