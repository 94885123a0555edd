-- A nested family: its nodes, how many of them are outermost, and that there is room for one more.
use Rattle.graph_theory.proofs.Common.{holds_all, nat_tests, ◌≡◌, ◌≢◌, ℕ, ◌+◌, ◌*◌, ◌≤◌, ◌<◌, true, false, not, eqb, List, [], ◌∷◌, length, refl, sym}
use Rattle.graph_theory.proofs.Common.{ap, ◌∙◌, arith, sum_by, All, All-map, both_ways, or_left, or_right, sum_by-cons, length-map, holds, most_blossoms}
use Rattle.std.specs.Prelude.{filter}
use Rattle.blossom_arena.specs.declared.links.Link.{Link}
use Rattle.blossom_arena.specs.Family.{Blossom, nodes_of, in_ring, names_of, is_vertex, is_node, is_child, is_outermost, IsCircuit, IsNext, IsNested}
use Rattle.blossom_arena.proofs.Lists.{AllNew, new_from_distinct, holds-filter, new-filter, length-without, length-within, vertices, holds-vertices, length-vertices, new-vertices}

-- what is true of each link's node is true of each node of the ring
pub ring_each : (P : ℕ → Type 0) (ring : List Link) (a : ℕ) → All (λ (l : Link). P l.node) ring → in_ring ring a ≡ true → P a
ring_each P ring a all e = holds_all P (nodes_of ring) a (All-map P (λ (l : Link). l.node) ring all) e

-- a node of a circuit is outermost
pub circuit_outer : (n : ℕ) (bs : List Blossom) (ring : List Link) (a : ℕ) → IsCircuit n bs ring → in_ring ring a ≡ true → is_outermost n bs a ≡ true
circuit_outer n bs ring a c e = ring_each (λ x. is_outermost n bs x ≡ true) ring a c.outermost e

pub outermost_parts : (n : ℕ) (bs : List Blossom) (a : ℕ) → is_outermost n bs a ≡ true → (is_node n bs a ≡ true) × (is_child bs a ≡ false)
outermost_parts n bs a e = (grind arith, grind arith)

pub circuit_node : (n : ℕ) (bs : List Blossom) (ring : List Link) (a : ℕ) → IsCircuit n bs ring → in_ring ring a ≡ true → is_node n bs a ≡ true
circuit_node n bs ring a c e = (outermost_parts n bs a (circuit_outer n bs ring a c e)).0

-- nodes stay nodes
pub node_grows : (n : ℕ) (b : Blossom) (older : List Blossom) (a : ℕ) → is_node n older a ≡ true → is_node n (b ∷ older) a ≡ true
node_grows n b older a e = grind (arith, nat_tests)

pub new_is_node : (n : ℕ) (b : Blossom) (older : List Blossom) → is_node n (b ∷ older) b.node ≡ true
new_is_node n b older = grind (arith, nat_tests)

-- a name that isn't the newest is an older one
pub older_name : (b : Blossom) (older : List Blossom) (a : ℕ) → eqb b.node a ≡ false → holds (names_of (b ∷ older)) a ≡ true → holds (names_of older) a ≡ true
older_name b older a ne k = grind (arith, nat_tests)

pub node_before : (n : ℕ) (b : Blossom) (older : List Blossom) (a : ℕ) → eqb b.node a ≡ false → is_node n (b ∷ older) a ≡ true → is_node n older a ≡ true
node_before n b older a s e = grind (arith, nat_tests)

-- a node is not one that comes anew
pub not_new : (n : ℕ) (bs : List Blossom) (x a : ℕ) → is_node n bs x ≡ false → is_node n bs a ≡ true → a ≢ x
not_new n bs x a fresh is e = both_ways (is_node n bs x) fresh (ap (is_node n bs) (sym e) ∙ is)

pub vertex_is_node : (n : ℕ) (bs : List Blossom) (v : ℕ) → is_vertex n v ≡ true → is_node n bs v ≡ true
vertex_is_node n bs v e = or_left (is_vertex n v) (holds (names_of bs) v) e

pub name_is_node : (n : ℕ) (bs : List Blossom) (a : ℕ) → holds (names_of bs) a ≡ true → is_node n bs a ≡ true
name_is_node n bs a e = or_right (is_vertex n a) (holds (names_of bs) a) e

pub vertex_range : (n v : ℕ) → is_vertex n v ≡ true → (1 ≤ v) × (v ≤ n)
vertex_range n v e = (grind (arith, nat_tests), grind (arith, nat_tests))

pub range_vertex : (n v : ℕ) → 1 ≤ v → v ≤ n → is_vertex n v ≡ true
range_vertex n v low high = grind (arith, nat_tests)

-- a blossom's number lies after the vertices and within the room
pub name_range : (n : ℕ) (bs : List Blossom) (a : ℕ) → IsNested n bs → holds (names_of bs) a ≡ true → (n < a) × (a ≤ n + most_blossoms n)
name_range n [] a h e = absurd (both_ways false refl e)
name_range n (b ∷ older) a h e = let more = name_range n older a h.1 in (grind (arith, nat_tests, more, h.0.after_vertices), grind (arith, nat_tests, more, h.0.within_room))

-- a node's number lies in range
pub node_range : (n : ℕ) (bs : List Blossom) (a : ℕ) → IsNested n bs → is_node n bs a ≡ true → (1 ≤ a) × (a ≤ n + most_blossoms n)
node_range n bs a h e = let named = name_range n bs a h in (grind (arith, nat_tests, named), grind (arith, nat_tests, named))

pub name_no_vertex : (n : ℕ) (bs : List Blossom) (a : ℕ) → IsNested n bs → holds (names_of bs) a ≡ true → is_vertex n a ≡ false
name_no_vertex n bs a h e = let r = name_range n bs a h e in grind (arith, nat_tests, r)

-- what lies in a ring is a node
pub child_is_node : (n : ℕ) (bs : List Blossom) (a : ℕ) → IsNested n bs → is_child bs a ≡ true → is_node n bs a ≡ true
child_is_node n [] a h e = absurd (both_ways false refl e)
child_is_node n (b ∷ older) a h e = grind (arith, nat_tests, circuit_node n older b.ring a h.0.circuit, child_is_node n older a h.1)

-- the newest node is in no ring
pub new_free : (n : ℕ) (b : Blossom) (older : List Blossom) → IsNested n (b ∷ older) → (in_ring b.ring b.node ≡ false) × (is_child older b.node ≡ false)
new_free n b older h = (grind (arith, circuit_node n older b.ring b.node h.0.circuit, h.0.fresh), grind (arith, child_is_node n older b.node h.1, h.0.fresh))

pub new_no_child : (n : ℕ) (b : Blossom) (older : List Blossom) → IsNested n (b ∷ older) → is_child (b ∷ older) b.node ≡ false
new_no_child n b older h = let p = new_free n b older h in grind (arith, p)

-- a node of a ring was outermost before, so it lies in no other ring
pub child_free : (n : ℕ) (older : List Blossom) (b : Blossom) (x : ℕ) → IsNext n older b → in_ring b.ring x ≡ true → is_child older x ≡ false
child_free n older b x h r = (outermost_parts n older x (circuit_outer n older b.ring x h.circuit r)).1

-- what is outermost and not the newest was outermost before, and is in no newest ring
pub outermost_before : (n : ℕ) (b : Blossom) (older : List Blossom) (x : ℕ) → eqb b.node x ≡ false → is_outermost n (b ∷ older) x ≡ true
    → (is_outermost n older x ≡ true) × (in_ring b.ring x ≡ false)
outermost_before n b older x s e = (grind (arith, nat_tests), grind (arith, nat_tests))

-- the names are different
pub names_new : (n : ℕ) (bs : List Blossom) → IsNested n bs → AllNew (names_of bs)
names_new n [] h = tt
names_new n (b ∷ older) h = (grind (arith, h.0.fresh), names_new n older h.1)

-- the outermost nodes
abbrev pub outer_nodes : ℕ → List Blossom → List ℕ
outer_nodes n [] = vertices n
outer_nodes n (b ∷ older) = b.node ∷ filter (λ a. not (in_ring b.ring a)) (outer_nodes n older)

-- a node is outermost after a shrink where it is new, or was outermost and is in no ring
pub holds-outer_nodes : (n : ℕ) (bs : List Blossom) (a : ℕ) → IsNested n bs → holds (outer_nodes n bs) a ≡ is_outermost n bs a
holds-outer_nodes n [] a h = holds-vertices n a ∙ grind (arith, nat_tests)
holds-outer_nodes n (b ∷ older) a h = grind (
  arith,
  nat_tests,
  holds-filter (λ x. not (in_ring b.ring x)) (outer_nodes n older) a,
  holds-outer_nodes n older a h.1,
  h.0.fresh,
  circuit_node n older b.ring a h.0.circuit,
  child_is_node n older a h.1,
)

-- the outermost nodes are different
pub new-outer_nodes : (n : ℕ) (bs : List Blossom) → IsNested n bs → AllNew (outer_nodes n bs)
new-outer_nodes n [] h = new-vertices n
new-outer_nodes n (b ∷ older) h = (
  grind (arith, holds-filter (λ a. not (in_ring b.ring a)) (outer_nodes n older) b.node, holds-outer_nodes n older b.node h.1, h.0.fresh),
  new-filter (λ a. not (in_ring b.ring a)) (outer_nodes n older) (new-outer_nodes n older h.1),
)

-- the links of all rings
abbrev pub link_count : List Blossom → ℕ
link_count bs = sum_by (λ (b : Blossom). length b.ring) bs

-- a shrink of k nodes leaves k - 1 nodes fewer
pub length-outer_nodes : (n : ℕ) (bs : List Blossom) → IsNested n bs → length (outer_nodes n bs) + link_count bs ≡ n + length bs
length-outer_nodes n [] h = omega (arith, length-vertices n)
length-outer_nodes n (b ∷ older) h =
    let outer : length (outer_nodes n older) + link_count older ≡ n + length older = length-outer_nodes n older h.1 in
    let less : length (filter (λ a. not (in_ring b.ring a)) (outer_nodes n older)) + length (nodes_of b.ring) ≡ length (outer_nodes n older) =
    length-without (nodes_of b.ring) (outer_nodes n older) (new_from_distinct (nodes_of b.ring) h.0.circuit.different) (new-outer_nodes n older h.1)
    (λ v e. holds-outer_nodes n older v h.1 ∙ circuit_outer n older b.ring v h.0.circuit e) in
    omega (arith, sum_by-cons (λ (b : Blossom). length b.ring) b older, length-map b.ring (λ (l : Link). l.node))

-- each ring has three links at least
pub link_count-low : (n : ℕ) (bs : List Blossom) → IsNested n bs → 3 * length bs ≤ link_count bs
link_count-low n [] h = omega arith
link_count-low n (b ∷ older) h = omega (arith, link_count-low n older h.1, h.0.circuit.at_least_three, sum_by-cons (λ (b : Blossom). length b.ring) b older)

-- there is room for one blossom more
pub room_for_circuit : (n : ℕ) (bs : List Blossom) (ring : List Link) → IsNested n bs → IsCircuit n bs ring → (length bs + 1 ≤ most_blossoms n) × (length ring ≤ n)
room_for_circuit n bs ring h c =
    let a : length (outer_nodes n bs) + link_count bs ≡ n + length bs = length-outer_nodes n bs h in
    let few : length (nodes_of ring) ≤ length (outer_nodes n bs) =
    length-within (nodes_of ring) (outer_nodes n bs) (new_from_distinct (nodes_of ring) c.different) (λ v e. holds-outer_nodes n bs v h ∙ circuit_outer n bs ring v c e) in
    let same = length-map ring (λ (l : Link). l.node) in
    let d : 3 * length bs ≤ link_count bs = link_count-low n bs h in
    let e : 3 ≤ length ring = c.at_least_three in
    (omega arith, omega arith)

-- and so many blossoms at most
pub blossoms_most : (n : ℕ) (bs : List Blossom) → IsNested n bs → length bs ≤ most_blossoms n
blossoms_most n [] h = omega arith
blossoms_most n (b ∷ older) h = omega (arith, (room_for_circuit n older b.ring h.1 h.0.circuit).0)

pub blossoms_few : (n : ℕ) (bs : List Blossom) → IsNested n bs → 2 * length bs ≤ n
blossoms_few n bs h =
    let a : length (outer_nodes n bs) + link_count bs ≡ n + length bs = length-outer_nodes n bs h in
    let d : 3 * length bs ≤ link_count bs = link_count-low n bs h in
    omega arith
