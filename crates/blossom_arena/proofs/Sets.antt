-- The vertices of the nodes of a nested family.
use Rattle.graph_theory.proofs.Common.{nat_tests, ◌≡◌, ℕ, ◌+◌, ◌%◌, ◌≤◌, true, false, ◌||◌, eqb, cond, List, [], ◌∷◌, length, refl, sym, ap, ◌∙◌, subst}
use Rattle.graph_theory.proofs.Common.{arith, ⊎_elim, length-append, eqb-true, eq-eqb, false_from_ne_true, or_cases, both_ways, or_left, flat_map-cons, holds, holds-append}
use Rattle.std.specs.Cmp.{both_ways as same_tests}
use Rattle.blossom_arena.specs.declared.links.Link.{Link}
use Rattle.blossom_arena.specs.Family.{Blossom, nodes_of, in_ring, names_of, is_vertex, is_node, is_child, is_outermost, outermost, members_of, union_of, IsNext, IsNested}
use Rattle.blossom_arena.proofs.Lists.{by_test, AllNew, new_from_distinct, new-append, first_in, later_in, vertices, length-vertices, holds-vertices, length-within}
use Rattle.blossom_arena.proofs.Nested.{circuit_outer, circuit_node, outermost_parts, node_before, new_is_node, node_grows, outermost_before, new_no_child}

-- the newest blossom's vertices, and those of any other node
pub members_here : (b : Blossom) (older : List Blossom) (x : ℕ) → eqb b.node x ≡ true → members_of (b ∷ older) x ≡ b.members
members_here b older x e = ap (λ q. cond q b.members (members_of older x)) e

pub members_past : (b : Blossom) (older : List Blossom) (x : ℕ) → eqb b.node x ≡ false → members_of (b ∷ older) x ≡ members_of older x
members_past b older x e = ap (λ q. cond q b.members (members_of older x)) e

-- the vertices of a circuit are those of its nodes
union_cons : (bs : List Blossom) (l : Link) (ring : List Link) (v : ℕ) → holds (union_of bs (l ∷ ring)) v ≡ (holds (members_of bs l.node) v || holds (union_of bs ring) v)
union_cons bs l ring v =
    ap (λ ms. holds ms v) (flat_map-cons (λ (l : Link). members_of bs l.node) l ring) ∙ holds-append (members_of bs l.node) (union_of bs ring) v

pub in_union : (bs : List Blossom) (ring : List Link) (a v : ℕ) → in_ring ring a ≡ true → holds (members_of bs a) v ≡ true → holds (union_of bs ring) v ≡ true
in_union bs [] a v r m = absurd (both_ways false refl r)
in_union bs (l ∷ ring) a v r m = grind (arith, nat_tests, union_cons bs l ring v, in_union bs ring a v)

-- a node of a circuit that has the vertex
pub record HasIn (bs : List Blossom) (ring : List Link) (v : ℕ) : Type 0 where
  pub node : ℕ
  pub within : in_ring ring node ≡ true
  pub has : holds (members_of bs node) v ≡ true

pub of_union : (bs : List Blossom) (ring : List Link) (v : ℕ) → holds (union_of bs ring) v ≡ true → HasIn bs ring v
of_union bs [] v e = absurd (both_ways false refl e)
of_union bs (l ∷ ring) v e = ⊎_elim
    (λ here. record { node = l.node; within = first_in l.node (nodes_of ring); has = here })
    (λ more. let r = of_union bs ring v more in record { node = r.node; within = later_in l.node (nodes_of ring) r.node r.within; has = r.has })
    (or_cases (holds (members_of bs l.node) v) (holds (union_of bs ring) v) (sym (union_cons bs l ring v) ∙ e))

-- members are vertices
pub member_vertex : (n : ℕ) (bs : List Blossom) (x v : ℕ) → IsNested n bs → is_node n bs x ≡ true → holds (members_of bs x) v ≡ true → is_vertex n v ≡ true
member_vertex n [] x v h k m = grind (arith, nat_tests)
member_vertex n (b ∷ older) x v h k m =
    by_test (eqb b.node x)
    (λ e. let r = of_union older b.ring v (sym (ap (λ ms. holds ms v) (members_here b older x e ∙ h.0.union)) ∙ m) in
    member_vertex n older r.node v h.1 (circuit_node n older b.ring r.node h.0.circuit r.within) r.has)
    (λ e. member_vertex n older x v h.1 (node_before n b older x e k) (sym (ap (λ ms. holds ms v) (members_past b older x e)) ∙ m))

-- the outermost node of a vertex is a node
pub outermost_node : (n : ℕ) (bs : List Blossom) (v : ℕ) → is_vertex n v ≡ true → is_node n bs (outermost bs v) ≡ true
outermost_node n [] v iv = or_left (is_vertex n v) false iv
outermost_node n (b ∷ older) v iv = grind (arith, nat_tests, new_is_node n b older, node_grows n b older (outermost older v) (outermost_node n older v iv))

-- what outermost nodes have is told by the outermost node of a vertex
abbrev TellsOuter : ℕ → List Blossom → ℕ → Type 0
TellsOuter n bs v = (x : ℕ) → is_outermost n bs x ≡ true → holds (members_of bs x) v ≡ eqb x (outermost bs v)

by_ring : (n : ℕ) (older : List Blossom) (b : Blossom) (v : ℕ) → IsNested n older → IsNext n older b → TellsOuter n older v
    → holds b.members v ≡ in_ring b.ring (outermost older v)
by_ring n older b v h next tells =
    ap (λ ms. holds ms v) next.union
    ∙ same_tests (holds (union_of older b.ring) v) (in_ring b.ring (outermost older v))
    (λ e. let r = of_union older b.ring v e in
    let same : r.node ≡ outermost older v = eqb-true r.node (outermost older v) (sym (tells r.node (circuit_outer n older b.ring r.node next.circuit r.within)) ∙ r.has) in
    subst (λ x. in_ring b.ring x ≡ true) same r.within)
    (λ e. in_union older b.ring (outermost older v) v e (tells (outermost older v) (circuit_outer n older b.ring (outermost older v) next.circuit e)
    ∙ eq-eqb (outermost older v) (outermost older v) refl))

-- an outermost node has the vertices whose outermost node it is
pub outer_member : (n : ℕ) (bs : List Blossom) (v : ℕ) → IsNested n bs → is_vertex n v ≡ true → TellsOuter n bs v
outer_member n [] v h iv x o = grind (arith, nat_tests)
outer_member n (b ∷ older) v h iv x o = grind (
  arith,
  nat_tests,
  by_ring n older b v h.1 h.0 (outer_member n older v h.1 iv),
  outer_member n older v h.1 iv x,
  outermost_before n b older x,
  outermost_node n older v iv,
  h.0.fresh,
)

-- a vertex is in a blossom exactly if its outermost node before was in the ring
pub member_by_ring : (n : ℕ) (older : List Blossom) (b : Blossom) (v : ℕ) → IsNested n (b ∷ older) → is_vertex n v ≡ true
    → holds b.members v ≡ in_ring b.ring (outermost older v)
member_by_ring n older b v h iv = by_ring n older b v h.1 h.0 (outer_member n older v h.1 iv)

-- the outermost node of a vertex is in no ring
pub outermost_free : (n : ℕ) (bs : List Blossom) (v : ℕ) → IsNested n bs → is_vertex n v ≡ true → is_child bs (outermost bs v) ≡ false
outermost_free n [] v h iv = refl
outermost_free n (b ∷ older) v h iv = grind (arith, nat_tests, new_no_child n b older h, member_by_ring n older b v h iv, outermost_free n older v h.1 iv)

-- and holds it
pub outermost_has : (n : ℕ) (bs : List Blossom) (v : ℕ) → IsNested n bs → is_vertex n v ≡ true
    → (is_outermost n bs (outermost bs v) ≡ true) × (holds (members_of bs (outermost bs v)) v ≡ true)
outermost_has n bs v h iv =
    let outer : is_outermost n bs (outermost bs v) ≡ true = grind (arith, outermost_node n bs v iv, outermost_free n bs v h iv) in
    (outer, grind (arith, nat_tests, outer_member n bs v h iv (outermost bs v) outer))

-- the outermost node that has a vertex is its outermost node
pub outermost_by_member : (n : ℕ) (bs : List Blossom) (x v : ℕ) → IsNested n bs → is_outermost n bs x ≡ true → holds (members_of bs x) v ≡ true → outermost bs v ≡ x
outermost_by_member n bs x v h o m = grind (arith, nat_tests, outer_member n bs v h (member_vertex n bs x v h (outermost_parts n bs x o).0 m) x o)

-- members are different
pub union_new : (n : ℕ) (bs : List Blossom) (ring : List Link) → IsNested n bs → AllNew (nodes_of ring)
    → ((a : ℕ) → in_ring ring a ≡ true → (is_outermost n bs a ≡ true) × AllNew (members_of bs a)) → AllNew (union_of bs ring)
union_new n bs [] h d each = tt
union_new n bs (l ∷ ring) h d each =
    let here = each l.node (first_in l.node (nodes_of ring)) in
    subst AllNew (sym (flat_map-cons (λ (l : Link). members_of bs l.node) l ring))
    (new-append (members_of bs l.node) (union_of bs ring) here.1
    (union_new n bs ring h d.1 (λ a r. each a (later_in l.node (nodes_of ring) a r)))
    (λ v m. false_from_ne_true (holds (union_of bs ring) v) (λ u.
    let r = of_union bs ring v u in
    let other = each r.node (later_in l.node (nodes_of ring) r.node r.within) in
    let same : r.node ≡ l.node = sym (outermost_by_member n bs r.node v h other.0 r.has) ∙ outermost_by_member n bs l.node v h here.0 m in
    both_ways (holds (nodes_of ring) l.node) d.0 (ap (in_ring ring) (sym same) ∙ r.within))))

pub members_new : (n : ℕ) (bs : List Blossom) (x : ℕ) → IsNested n bs → is_node n bs x ≡ true → AllNew (members_of bs x)
members_new n [] x h k = (refl, tt)
members_new n (b ∷ older) x h k =
    by_test (eqb b.node x)
    (λ e. rw (e, h.0.union) (union_new n older b.ring h.1 (new_from_distinct (nodes_of b.ring) h.0.circuit.different)
    (λ a r. (circuit_outer n older b.ring a h.0.circuit r, members_new n older a h.1 (circuit_node n older b.ring a h.0.circuit r)))))
    (λ e. rw e (members_new n older x h.1 (node_before n b older x e k)))

-- different outermost nodes have no vertex in common, so they have n vertices at most
pub union_within : (n : ℕ) (bs : List Blossom) (ring : List Link) → IsNested n bs → AllNew (nodes_of ring) → ((a : ℕ) → in_ring ring a ≡ true → is_outermost n bs a ≡ true)
    → length (union_of bs ring) ≤ n
union_within n bs ring h new outer = omega (
  arith,
  length-vertices n,
  length-within (union_of bs ring) (vertices n)
      (union_new n bs ring h new (λ a r. (outer a r, members_new n bs a h (outermost_parts n bs a (outer a r)).0)))
      (λ v e. let r = of_union bs ring v e in holds-vertices n v ∙ member_vertex n bs r.node v h (outermost_parts n bs r.node (outer r.node r.within)).0 r.has),
)

-- an odd number of them
pub union_odd : (bs : List Blossom) (ring : List Link) → ((a : ℕ) → in_ring ring a ≡ true → length (members_of bs a) % 2 ≡ 1)
    → (length (union_of bs ring) % 2 ≡ length ring % 2) × (length ring ≤ length (union_of bs ring))
union_odd bs [] each = (refl, omega arith)
union_odd bs (l ∷ ring) each =
    let rest = union_odd bs ring (λ a r. each a (later_in l.node (nodes_of ring) a r)) in
    let here : length (members_of bs l.node) % 2 ≡ 1 = each l.node (first_in l.node (nodes_of ring)) in
    let sizes : length (union_of bs (l ∷ ring)) ≡ length (members_of bs l.node) + length (union_of bs ring) = ap length (flat_map-cons (λ (l : Link). members_of bs l.node) l ring)
    ∙ length-append (members_of bs l.node) (union_of bs ring) in
    (omega (arith, rest.0, here, sizes), omega (arith, rest.1, here, sizes))

pub members_odd : (n : ℕ) (bs : List Blossom) (x : ℕ) → IsNested n bs → is_node n bs x ≡ true → length (members_of bs x) % 2 ≡ 1
members_odd n [] x h k = refl
members_odd n (b ∷ older) x h k = grind (
  arith,
  nat_tests,
  ap length h.0.union,
  union_odd older b.ring (λ a r. members_odd n older a h.1 (circuit_node n older b.ring a h.0.circuit r)),
  h.0.circuit.odd,
  members_odd n older x h.1,
)

pub members_some : (n : ℕ) (bs : List Blossom) (x : ℕ) → IsNested n bs → is_node n bs x ≡ true → 1 ≤ length (members_of bs x)
members_some n bs x h k = omega (arith, members_odd n bs x h k)

-- a blossom has three at least
pub members_three : (n : ℕ) (bs : List Blossom) (x : ℕ) → IsNested n bs → holds (names_of bs) x ≡ true → 3 ≤ length (members_of bs x)
members_three n [] x h k = absurd (both_ways false refl k)
members_three n (b ∷ older) x h k = grind (
  arith,
  nat_tests,
  ap length h.0.union,
  union_odd older b.ring (λ a r. members_odd n older a h.1 (circuit_node n older b.ring a h.0.circuit r)),
  h.0.circuit.at_least_three,
  members_three n older x h.1,
)

-- a vertex has itself alone
pub members_of_vertex : (n : ℕ) (bs : List Blossom) (v : ℕ) → IsNested n bs → is_vertex n v ≡ true → members_of bs v ≡ v ∷ []
members_of_vertex n [] v h iv = refl
members_of_vertex n (b ∷ older) v h iv = grind (arith, nat_tests, h.0.after_vertices, members_of_vertex n older v h.1 iv)
