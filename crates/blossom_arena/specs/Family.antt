-- A nested family of odd sets with duals (chapters 24 and 26), as contracts see an arena.
use Rattle.std.specs.Prelude.{◌≡◌, ℕ, ◌+◌, ◌%◌, ◌<◌, ◌≤◌, ℤ, pos, ◌≤ℤ◌, ◌+ℤ◌, Bool, true, false}
use Rattle.std.specs.Prelude.{◌==◌, nat_eq, ◌&&◌, ◌||◌, not, nat_le}
use Rattle.std.specs.Prelude.{if◌then◌else◌, List, [], ◌∷◌, ◌++◌, length, map, All, replicate}
use Rattle.std.specs.Prelude.{slice_index_or, slice_set}
use Rattle.std.specs.List.{list_any, flat_map, IsDistinct, AllByRecursion}
use Rattle.graph_theory.specs.declared.limits.TheConstants.{GRAPH_VERTEX_LIMIT}
use Rattle.graph_theory.specs.Parts.{holds}
use Rattle.graph_theory.specs.Nested.{most_blossoms}
use Rattle.graph_theory.specs.Duals.{IsNumber}
use Rattle.blossom_arena.specs.declared.links.Link.{Link}
use Rattle.blossom_arena.specs.declared.label.Label.{Label}
use Rattle.blossom_arena.specs.declared.label.Label.TheVariants.{Out}

-- an odd set that is one node: the circuit that it was shrunk from, and its vertices in the order
-- of the circuit
pub record Blossom : Type 0 where
  pub node : ℕ
  pub ring : List Link
  pub members : List ℕ

-- the vertices are 1 to vertex_count, the duals and the labels by which they move stand by node
-- number, the blossoms newest first
pub record Family : Type 0 where
  pub vertex_count : ℕ
  pub duals : List ℤ
  pub motions : List Label
  pub blossoms : List Blossom

abbrev pub nodes_of : List Link → List ℕ
nodes_of ring = map (λ (l : Link). l.node) ring

-- a circuit goes through this node
abbrev pub in_ring : List Link → ℕ → Bool
in_ring ring a = holds (nodes_of ring) a

abbrev pub names_of : List Blossom → List ℕ
names_of bs = map (λ (b : Blossom). b.node) bs

abbrev pub is_vertex : ℕ → ℕ → Bool
is_vertex n v = nat_le 1 v && nat_le v n

-- a vertex or a blossom
abbrev pub is_node : ℕ → List Blossom → ℕ → Bool
is_node n bs a = is_vertex n a || holds (names_of bs) a

-- a node of some blossom's ring
abbrev pub is_child : List Blossom → ℕ → Bool
is_child bs a = list_any (λ (b : Blossom). in_ring b.ring a) bs

-- a node that no other node holds
abbrev pub is_outermost : ℕ → List Blossom → ℕ → Bool
is_outermost n bs a = is_node n bs a && not (is_child bs a)

-- the vertices of a node; those of a vertex are itself
abbrev pub members_of : List Blossom → ℕ → List ℕ
members_of [] a = a ∷ []
members_of (b ∷ older) a = if b.node == a then b.members else members_of older a

-- the vertices of the nodes of a circuit, node by node
abbrev pub union_of : List Blossom → List Link → List ℕ
union_of bs ring = flat_map (λ (l : Link). members_of bs l.node) ring

-- the outermost node that holds v: the newest blossom that holds it
abbrev pub outermost : List Blossom → ℕ → ℕ
outermost [] v = v
outermost (b ∷ older) v = if holds b.members v then b.node else outermost older v

-- an odd number of at least three different outermost nodes
pub record IsCircuit (n : ℕ) (bs : List Blossom) (ring : List Link) : Type 0 where
  pub at_least_three : 3 ≤ length ring
  pub odd : length ring % 2 ≡ 1
  pub outermost : All (λ (l : Link). is_outermost n bs l.node ≡ true) ring
  pub different : IsDistinct nat_eq (nodes_of ring)

-- what a blossom is, over those that are older
pub record IsNext (n : ℕ) (older : List Blossom) (b : Blossom) : Type 0 where
  pub after_vertices : n < b.node
  pub within_room : b.node ≤ n + most_blossoms n
  pub fresh : is_node n older b.node ≡ false
  pub circuit : IsCircuit n older b.ring
  pub union : b.members ≡ union_of older b.ring

-- each blossom is made of nodes that were outermost before it: of any two nodes one holds the
-- other, or they have no vertex in common
abbrev pub IsNested : ℕ → List Blossom → Type 0
IsNested n [] = Unit {0}
IsNested n (b ∷ older) = IsNext n older b × IsNested n older

-- the dual of a node
abbrev pub dual_at : List ℤ → ℕ → ℤ
dual_at ys a = slice_index_or ys a (pos 0)

-- each dual lies in range, and no blossom's is negative
pub record HasDuals (n : ℕ) (ys : List ℤ) (bs : List Blossom) : Type 0 where
  pub one_each : length ys ≡ n + most_blossoms n + 1
  pub in_range : All IsNumber ys
  pub blossoms : AllByRecursion (λ (b : Blossom). pos 0 ≤ℤ dual_at ys b.node) bs

-- the label of a node
abbrev pub label_at : List Label → ℕ → Label
label_at labels a = slice_index_or labels a Out

-- each number has a motion, and none but an outermost node moves
pub record HasMotions (n : ℕ) (ms : List Label) (bs : List Blossom) : Type 0 where
  pub one_each : length ms ≡ n + most_blossoms n + 1
  pub inside : (a : ℕ) → is_outermost n bs a ≡ false → label_at ms a ≡ Out

-- an odd number of at least three different vertices
pub record IsOddSet (n : ℕ) (set : List ℕ) : Type 0 where
  pub three : 3 ≤ length set
  pub odd : length set % 2 ≡ 1
  pub different : IsDistinct nat_eq set
  pub in_range : All (λ v. (1 ≤ v) × (v ≤ n)) set

-- what an arena keeps
pub record IsFamily (f : Family) : Type 0 where
  pub size_limit : f.vertex_count ≤ GRAPH_VERTEX_LIMIT
  pub nested : IsNested f.vertex_count f.blossoms
  pub duals : HasDuals f.vertex_count f.duals f.blossoms
  pub motions : HasMotions f.vertex_count f.motions f.blossoms

-- all duals 0 and at rest, and no blossom
abbrev pub empty_family : ℕ → Family
empty_family n = record {
  vertex_count = n;
  duals = replicate (n + most_blossoms n + 1) (pos 0);
  motions = replicate
      (n + most_blossoms n + 1) Out;
  blossoms = [];
}

-- a blossom on top of these
abbrev pub made_of : List Blossom → List Link → ℕ → Blossom
made_of bs ring node = record { node = node; ring = ring; members = union_of bs ring }

-- the motions once these nodes rest
abbrev pub rested : List Label → List ℕ → List Label
rested ms [] = ms
rested ms (a ∷ rest) = rested (slice_set ms a Out) rest

-- the family after a shrink: one set more, of dual 0, which rests, and so do the circuit's nodes
-- inside it
abbrev pub shrunk : Family → ℕ → List Link → Family
shrunk f node ring =
    record f {
      duals = slice_set f.duals node (pos 0);
      motions = slice_set
          (rested f.motions (nodes_of ring)) node Out;
      blossoms = made_of f.blossoms ring node
          ∷ f.blossoms;
    }

-- the blossoms without the one of this node
abbrev pub without : List Blossom → ℕ → List Blossom
without [] a = []
without (b ∷ older) a = if b.node == a then older else b ∷ without older a

-- the family after a dissolve: the blossom moves no more, and its circuit's nodes rest as they did
-- inside it
abbrev pub dissolved : Family → ℕ → Family
dissolved f a = record f { motions = slice_set f.motions a Out; blossoms = without f.blossoms a }

-- the family after the dual of a node is raised
abbrev pub raised : Family → ℕ → ℤ → Family
raised f a d = record f { duals = slice_set f.duals a (dual_at f.duals a +ℤ d) }

-- the family once a node moves as a label says
abbrev pub moving : Family → ℕ → Label → Family
moving f a label = record f { motions = slice_set f.motions a label }

-- the circuit of a blossom, and the blossoms older than it
abbrev pub ring_of : List Blossom → ℕ → List Link
ring_of [] a = []
ring_of (b ∷ older) a = if b.node == a then b.ring else ring_of older a

abbrev pub older_than : List Blossom → ℕ → List Blossom
older_than [] a = []
older_than (b ∷ older) a = if b.node == a then older else older_than older a

-- the node of a blossom's circuit that holds v: the outermost one before the blossom was made
abbrev pub child_holding : List Blossom → ℕ → ℕ → ℕ
child_holding bs a v = outermost (older_than bs a) v

-- the nodes that hold v, innermost first, v itself first
abbrev pub chain_of : List Blossom → ℕ → List ℕ
chain_of [] v = v ∷ []
chain_of (b ∷ older) v = if holds b.members v then chain_of older v ++ b.node ∷ []
    else chain_of older v
