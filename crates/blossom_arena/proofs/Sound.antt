-- What the fields of an arena keep, read off.
use Rattle.graph_theory.proofs.Common.{get_or_default, nat_tests, ◌≡◌, ℕ, ◌+◌, ◌≤◌, ◌<◌, true, false, leb, cond, List, [], ◌∷◌, length, refl, sym, ap, ◌∙◌}
use Rattle.graph_theory.proofs.Common.{subst, arith, Bool, map, ap₂, slice_index, slice_index_or, AllByRecursion, false_from_ne_true, lt-leb, cond_both, leb-true, holds, most_blossoms}
use Rattle.slab.specs.Slab.{slab_len}
use Rattle.blossom_arena.proofs.LinkLists.{each_run}
use Rattle.blossom_arena.specs.declared.links.Link.{Link}
use Rattle.blossom_arena.specs.declared.runs.Run.{Run}
use Rattle.blossom_arena.specs.declared.arena.Arena.TheInside.{Inside}
use Rattle.blossom_arena.specs.Tables.{walk, last_of}
use Rattle.blossom_arena.specs.Family.{Blossom, nodes_of, in_ring, names_of, is_vertex, is_node, is_child, members_of, union_of, ring_of, IsCircuit, IsNested, Family}
use Rattle.blossom_arena.specs.Fields.{IsRun, IsSound, blossoms_of, empty_run, joined, joined_size, joined_tail, kept_of, family_of, vertices_of, run_of, longer_of, longest_of, order_of}
use Rattle.blossom_arena.specs.Fields.{own_run, ring_at, runs_of}
use Rattle.blossom_arena.proofs.Lists.{tails, AllNew, each_from, first_in, new_from_distinct, by_test}
use Rattle.blossom_arena.proofs.Nested.{names_new, name_range, node_range, vertex_range, child_is_node, circuit_outer, circuit_node, range_vertex}
use Rattle.blossom_arena.proofs.Sets.{in_union, members_of_vertex, member_vertex, members_some, members_new, of_union, union_new, union_within}
use Rattle.blossom_arena.proofs.Tails.{last_in}
use Rattle.blossom_arena.proofs.Parents.{ring_child}
use Rattle.blossom_arena.proofs.Writes.{length-walk, nodes-links}
use Rattle.blossom_arena.proofs.Builds.{names-build, ring-build, length-build}
use Rattle.blossom_arena.proofs.Joins.{IsJoined, join_is, run_size}

-- the rings by the fields
abbrev pub rings : Inside → ℕ → List Link
rings a x = ring_at a.vertex_count a.kept a.nexts.items a.edges.items x

pub order_names : (a : Inside) → names_of (blossoms_of a) ≡ order_of a
order_names a = names-build (rings a) (order_of a)

pub order_len : (a : Inside) → length (order_of a) ≡ slab_len a.kept
order_len a = length-walk (slab_len a.kept) a.older.items (slice_index a.older.items 0)

pub blossoms_len : (a : Inside) → length (blossoms_of a) ≡ slab_len a.kept
blossoms_len a = length-build (rings a) (order_of a) ∙ order_len a

pub order_new : (a : Inside) → IsSound a → AllNew (order_of a)
order_new a s = subst AllNew (order_names a) (names_new a.vertex_count (blossoms_of a) s.family.nested)

pub order_range : (a : Inside) → IsSound a → (x : ℕ) → holds (order_of a) x ≡ true → (a.vertex_count < x) × (x ≤ a.vertex_count + most_blossoms a.vertex_count)
order_range a s x e = name_range a.vertex_count (blossoms_of a) x s.family.nested (ap (λ xs. holds xs x) (order_names a) ∙ e)

pub order_no_zero : (a : Inside) → IsSound a → holds (order_of a) 0 ≡ false
order_no_zero a s = false_from_ne_true (holds (order_of a) 0) (λ e. absurd (omega (arith, (order_range a s 0 e).0)))

-- each node has its run
pub node_run : (a : Inside) → IsSound a → (x : ℕ) → is_node a.vertex_count (blossoms_of a) x ≡ true
    → IsRun a.followers.items (run_of a.vertex_count a.kept x) (members_of (blossoms_of a) x)
node_run a s x k =
    cond_both (leb x a.vertex_count) (own_run x) (kept_of a.vertex_count a.kept x).run (λ r. IsRun a.followers.items r (members_of (blossoms_of a) x))
    (λ e.
    let range = node_range a.vertex_count (blossoms_of a) x s.family.nested k in
    let members : members_of (blossoms_of a) x ≡ x ∷ [] =
    members_of_vertex a.vertex_count (blossoms_of a) x s.family.nested (range_vertex a.vertex_count x range.0 (leb-true x a.vertex_count e)) in
    record { vertices = sym members; tail = ap (last_of 0) members; core = ap (λ xs. holds xs x) members ∙ first_in x [] })
    (λ e. s.runs x (sym (ap (λ xs. holds xs x) (order_names a)) ∙ grind (arith, nat_tests)))

-- walks stay within the tables
pub members_within : (a : Inside) → IsSound a → (x : ℕ) → is_node a.vertex_count (blossoms_of a) x ≡ true
    → AllByRecursion (λ v. v < length a.followers.items) (vertices_of a.followers.items (run_of a.vertex_count a.kept x))
members_within a s x k =
    subst (AllByRecursion (λ v. v < length a.followers.items)) (sym (node_run a s x k).vertices)
    (each_from (λ v. v < length a.followers.items) (members_of (blossoms_of a) x)
    (λ v e. omega (arith, (vertex_range a.vertex_count v (member_vertex a.vertex_count (blossoms_of a) x v s.family.nested k e)).1, s.places.followers)))

-- a node's vertices as they are read, by the number of it that a contract has
module _ (a : Inside) (f : Family) (x y : ℕ) (s : IsSound a) (view : family_of a ≡ f) (seen : is_node f.vertex_count f.blossoms x ≡ true) (same : y ≡ x) where
  pub node_seen : is_node a.vertex_count (blossoms_of a) y ≡ true
  node_seen = ap₂ (λ (g : Family) (z : ℕ). is_node g.vertex_count g.blossoms z) view same ∙ seen

  pub node_low : y ≤ a.vertex_count + most_blossoms a.vertex_count
  node_low = (node_range a.vertex_count (blossoms_of a) y s.family.nested node_seen).1

  module _ (fs : List ℕ) (r : Run) (followers : fs ≡ a.followers.items) (run : r ≡ run_of a.vertex_count a.kept y) where
    pub read_within : AllByRecursion (λ v. v < length fs) (vertices_of fs r)
    read_within = subst (λ (t : List ℕ). AllByRecursion (λ v. v < length t) (vertices_of t r)) (sym followers)
        (subst (λ (q : Run). AllByRecursion (λ v. v < length a.followers.items) (vertices_of a.followers.items q)) (sym run) (members_within a s y node_seen))

    pub read_members : vertices_of fs r ≡ members_of (blossoms_of a) y
    read_members = ap₂ vertices_of followers run ∙ (node_run a s y node_seen).vertices

pub ring_is : (a : Inside) → (x : ℕ) → holds (order_of a) x ≡ true → ring_of (blossoms_of a) x ≡ rings a x
ring_is a x e = ring-build (rings a) (order_of a) x e

-- a number of a ring's walk is a node, and a child
pub ring_walk_child : (a : Inside) → (x y : ℕ) → holds (order_of a) x ≡ true
    → holds (walk (kept_of a.vertex_count a.kept x).links a.nexts.items (kept_of a.vertex_count a.kept x).first) y ≡ true → is_child (blossoms_of a) y ≡ true
ring_walk_child a x y there e =
    ring_child (blossoms_of a) x y
    (ap (λ r. in_ring r y) (ring_is a x there)
    ∙ ap (λ xs. holds xs y) (nodes-links a.edges.items (walk (kept_of a.vertex_count a.kept x).links a.nexts.items (kept_of a.vertex_count a.kept x).first)) ∙ e)

pub ring_within : (a : Inside) → IsSound a → (x : ℕ) → holds (order_of a) x ≡ true
    → AllByRecursion (λ y. (y < length a.nexts.items) × (y < length a.edges.items)) (walk (kept_of a.vertex_count a.kept x).links a.nexts.items (kept_of a.vertex_count a.kept x).first)
ring_within a s x there =
    each_from (λ y. (y < length a.nexts.items) × (y < length a.edges.items)) (walk (kept_of a.vertex_count a.kept x).links a.nexts.items (kept_of a.vertex_count a.kept x).first)
    (λ y e. let r = node_range a.vertex_count (blossoms_of a) y s.family.nested (child_is_node a.vertex_count (blossoms_of a) y s.family.nested (ring_walk_child a x y there e)) in
    (omega (arith, r.1, s.places.nexts), omega (arith, r.1, s.places.edges)))

-- the order as it is read
pub order_read : (a : Inside) (older : List ℕ) (at count : ℕ) → IsSound a → count ≡ slab_len a.kept → older ≡ a.older.items → at ≡ slice_index_or a.older.items 0 at
    → walk count older at ≡ order_of a
order_read a older at count s many table first =
    ap (λ k. walk k older at) many ∙ ap₂ (walk (slab_len a.kept)) table (first ∙ get_or_default a.older.items 0 at 0 (omega (arith, s.places.older)))

pub order_within : (a : Inside) → IsSound a → AllByRecursion (λ x. x < length a.older.items) (order_of a)
order_within a s = each_from (λ x. x < length a.older.items) (order_of a) (λ x e. omega (arith, (order_range a s x e).1, s.places.older))

-- the vertices of a circuit
pub union_vertex : (n : ℕ) (bs : List Blossom) (ring : List Link) (v : ℕ) → IsNested n bs → IsCircuit n bs ring → holds (union_of bs ring) v ≡ true → is_vertex n v ≡ true
union_vertex n bs ring v h c e = let r = of_union bs ring v e in member_vertex n bs r.node v h (circuit_node n bs ring r.node c r.within) r.has

pub circuit_union_new : (n : ℕ) (bs : List Blossom) (ring : List Link) → IsNested n bs → IsCircuit n bs ring → AllNew (union_of bs ring)
circuit_union_new n bs ring h c =
    union_new n bs ring h (new_from_distinct (nodes_of ring) c.different) (λ a r. (circuit_outer n bs ring a c r, members_new n bs a h (circuit_node n bs ring a c r)))

pub union_few : (n : ℕ) (bs : List Blossom) (ring : List Link) → IsNested n bs → IsCircuit n bs ring → length (union_of bs ring) ≤ n
union_few n bs ring h c = union_within n bs ring h (new_from_distinct (nodes_of ring) c.different) (λ a r. circuit_outer n bs ring a c r)

-- the run of a circuit that is joined
abbrev pub joined_run : Inside → List Link → Run
joined_run a ring = record {
  head = slice_index (joined a.followers.items 0 (runs_of a.vertex_count a.kept ring)) 0;
  tail = joined_tail 0 (runs_of a.vertex_count a.kept ring);
  size = joined_size (runs_of a.vertex_count a.kept ring);
  core = (longest_of empty_run (runs_of a.vertex_count a.kept ring)).core;
}

-- the node of a circuit whose run is the longest
pub record HasCore (a : Inside) (ring : List Link) : Type 0 where
  pub node : ℕ
  pub within : in_ring ring node ≡ true
  pub is : (joined_run a ring).core ≡ (run_of a.vertex_count a.kept node).core
  pub has : holds (members_of (blossoms_of a) node) (joined_run a ring).core ≡ true

-- the longest of runs is one of them
longest_in : (run : ℕ → Run) (best : ℕ) (ring : List Link)
    → (x : ℕ) × (holds (best ∷ nodes_of ring) x ≡ true) × (longest_of (run best) (map (λ (l : Link). run l.node) ring) ≡ run x)
longest_in run best [] = (best, first_in best [], refl)
longest_in run best (l ∷ ring) =
    let next : Bool → Run = λ q. longest_of (cond q (run best) (run l.node)) (map (λ (k : Link). run k.node) ring) in
    by_test (leb (run l.node).size (run best).size)
    (λ e. let r = longest_in run best ring in (r.0, grind (arith, nat_tests, r.1), ap next e ∙ r.2))
    (λ e. let r = longest_in run l.node ring in (r.0, grind (arith, nat_tests, r.1), ap next e ∙ r.2))

pub core_in : (a : Inside) (ring : List Link) → IsSound a → IsCircuit a.vertex_count (blossoms_of a) ring → HasCore a ring
core_in a [] s c = absurd (omega (arith, c.at_least_three))
core_in a (l ∷ ring) s c =
    let n : ℕ = a.vertex_count in
    let bs : List Blossom = blossoms_of a in
    let k = circuit_node n bs (l ∷ ring) l.node c (first_in l.node (nodes_of ring)) in
    let some : 1 ≤ (run_of n a.kept l.node).size =
    omega (arith, run_size a.followers.items (run_of n a.kept l.node) (members_of bs l.node) (node_run a s l.node k), members_some n bs l.node s.family.nested k) in
    let r = longest_in (run_of n a.kept) l.node ring in
    let first : longer_of empty_run (run_of n a.kept l.node) ≡ run_of n a.kept l.node =
    ap (λ q. cond q empty_run (run_of n a.kept l.node)) (lt-leb (run_of n a.kept l.node).size 0 some) in
    let is : (joined_run a (l ∷ ring)).core ≡ (run_of n a.kept r.0).core = ap (λ (q : Run). (longest_of q (runs_of n a.kept ring)).core) first ∙ ap (λ (q : Run). q.core) r.2 in
    record { node = r.0; within = r.1; is = is; has = ap (holds (members_of bs r.0)) is ∙ (node_run a s r.0 (circuit_node n bs (l ∷ ring) r.0 c r.1)).core }

pub circuit_joins : (a : Inside) (ring : List Link) → IsSound a → IsCircuit a.vertex_count (blossoms_of a) ring
    → IsRun (joined a.followers.items 0 (runs_of a.vertex_count a.kept ring)) (joined_run a ring) (union_of (blossoms_of a) ring)
    × (joined_size (runs_of a.vertex_count a.kept ring) ≡ length (union_of (blossoms_of a) ring))
circuit_joins a ring s c =
    let n : ℕ = a.vertex_count in
    let bs : List Blossom = blossoms_of a in
    let f : List ℕ = a.followers.items in
    let F : List ℕ = joined f 0 (runs_of n a.kept ring) in
    let U : List ℕ = union_of bs ring in
    let start : IsJoined f 0 0 [] U = record {
      walked = refl;
      last = refl;
      new = (grind (arith, nat_tests, union_vertex n bs ring 0 s.family.nested c), circuit_union_new n bs ring s.family.nested c);
      within = λ v e. grind (arith, nat_tests, union_vertex n bs ring v s.family.nested c, s.places.followers);
    } in
    let all = join_is f 0 0 [] bs (run_of n a.kept) ring start (λ x r. let k = circuit_node n bs ring x c r in (node_run a s x k, members_some n bs x s.family.nested k)) in
    let core = core_in a ring s c in
    let walked : walk (length U) F (slice_index F 0) ≡ U = tails 0 0 (walk (length U) F (slice_index F 0)) U all.0 in (
      record { vertices = ap (λ k. walk k F (slice_index F 0)) all.2 ∙ walked; tail = sym all.1; core = in_union bs ring core.node (joined_run a ring).core core.within core.has },
      all.2,
    )

-- what a join needs
pub tails_within : (a : Inside) (ring : List Link) → IsSound a → IsCircuit a.vertex_count (blossoms_of a) ring
    → AllByRecursion (λ (r : Run). r.tail < length a.followers.items) (runs_of a.vertex_count a.kept ring)
tails_within a ring s c = each_run (λ (r : Run). r.tail < length a.followers.items) (run_of a.vertex_count a.kept) ring (λ x r.
    let k = circuit_node a.vertex_count (blossoms_of a) ring x c r in
    let ms : List ℕ = members_of (blossoms_of a) x in
    let last = last_in 0 ms (members_some a.vertex_count (blossoms_of a) x s.family.nested k) in
    let low = (vertex_range a.vertex_count (last_of 0 ms) (member_vertex a.vertex_count (blossoms_of a) x (last_of 0 ms) s.family.nested k last)).1 in
    omega (arith, low, (node_run a s x k).tail, s.places.followers))
