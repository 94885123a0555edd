-- A blossom that is opened: its circuit is matched. Only clauses of private calls cite this module.
use Rattle.std.specs.Prelude.{◌≡◌, ◌⊎◌, ◌≢◌, ℕ, true, false, ◌==◌, if◌then◌else◌, List, [], ◌∷◌}
use Rattle.std.specs.Prelude.{◌++◌, Option, Some, None, is_some, All}
use Rattle.graph_theory.specs.Graph.{Multigraph, IsEdgeWithin, IsEdgeNumber, edge_of}
use Rattle.graph_theory.specs.Parts.{holds}
use Rattle.blossom_arena.specs.declared.links.Link.{Link}
use Rattle.blossom_arena.specs.Family.{Blossom, Family, IsFamily, in_ring, names_of, members_of}
use Rattle.blossom_arena.specs.Family.{ring_of, older_than, child_holding, chain_of, outermost}
use Rattle.blossom_arena.specs.Family.{is_vertex, is_child, is_outermost}
use Rattle.alt_forest.specs.Circuits.{ArePaired}
use Rattle.alt_forest.specs.State.{Joins, IsRing, HasRings, next_node}
use Rattle.alt_forest.specs.Searches.{put}

-- the links before the one of this node, and those after it
abbrev pub links_before : List Link → ℕ → List Link
links_before [] a = []
links_before (l ∷ rest) a = if l.node == a then [] else l ∷ links_before rest a

abbrev pub links_after : List Link → ℕ → List Link
links_after [] a = []
links_after (l ∷ rest) a = if l.node == a then rest else links_after rest a

-- the table with an edge at each of these nodes
abbrev pub marked : (ℕ → Option ℕ) → List ℕ → ℕ → ℕ → Option ℕ
marked m [] e = m
marked m (c ∷ cs) e = marked (put m c (Some e)) cs e

-- the nodes before one of them
abbrev pub up_to : List ℕ → ℕ → List ℕ
up_to [] b = []
up_to (c ∷ cs) b = if c == b then [] else c ∷ up_to cs b

-- the table with an edge at each node that holds an end of it
abbrev pub spread : Multigraph → List Blossom → (ℕ → Option ℕ) → ℕ → ℕ → Option ℕ
spread g bs m e = marked (marked m (chain_of bs (edge_of g e).u) e) (chain_of bs (edge_of g e).v) e

-- and, of these nodes, at those within a blossom alone
abbrev pub spread_in : Multigraph → List Blossom → ℕ → (ℕ → Option ℕ) → ℕ → ℕ → Option ℕ
spread_in g bs b m e = marked (marked m (up_to (chain_of bs (edge_of g e).u) b) e)
    (up_to (chain_of bs (edge_of g e).v) b) e

-- the mates once links are paired, two by two, if one may wait for its second
abbrev pub paired : ((ℕ → Option ℕ) → ℕ → ℕ → Option ℕ) → (ℕ → Option ℕ) → Option Link → List Link
    → ℕ → Option ℕ
paired step m None [] = m
paired step m (Some k) [] = m
paired step m None (l ∷ rest) = paired step m (Some l) rest
paired step m (Some k) (l ∷ rest) = paired step (step m k.edge) None rest

-- the first node of these links that has a mate
abbrev pub first_matched : (ℕ → Option ℕ) → List Link → ℕ
first_matched m [] = 0
first_matched m (l ∷ rest) = if is_some (m l.node) then l.node else first_matched m rest

-- which link waits after these
abbrev pub waiting_after : Option Link → List Link → Option Link
waiting_after None [] = None
waiting_after (Some k) [] = Some k
waiting_after None (l ∷ rest) = waiting_after (Some l) rest
waiting_after (Some k) (l ∷ rest) = waiting_after None rest

-- two outermost nodes are each other's mates
pub record IsPair (g : Multigraph) (bs : List Blossom) (m : ℕ → Option ℕ) (a e b : ℕ) : Type 0 where
  pub edge : IsEdgeNumber g e
  pub joins : Joins g bs e a b
  pub different : a ≢ b
  pub outermost : is_outermost g.vertices bs b ≡ true
  pub back : m b ≡ Some e

-- each outermost node that has a mate is that one's mate
abbrev pub AreMated : Multigraph → List Blossom → (ℕ → Option ℕ) → Type 0
AreMated g bs m = (a e : ℕ) → is_outermost g.vertices bs a ≡ true → m a ≡ Some e
    → (b : ℕ) × IsPair g bs m a e b

-- a vertex at an end of an edge
pub record IsEnd (g : Multigraph) (e v : ℕ) : Type 0 where
  pub vertex : is_vertex g.vertices v ≡ true
  pub end : (v ≡ (edge_of g e).u) ⊎ (v ≡ (edge_of g e).v)

-- the mate of an outermost node is kept at each node that holds its end there
abbrev pub IsSpread : Multigraph → List Blossom → (ℕ → Option ℕ) → ℕ → Type 0
IsSpread g bs m a = (f v c : ℕ) → m a ≡ Some f → IsEnd g f v → outermost bs v ≡ a
    → holds (chain_of bs v) c ≡ true → m c ≡ Some f

-- an edge is the mate of an outermost node, and has an end in this node
pub record IsFromAbove (g : Multigraph) (bs : List Blossom) (m : ℕ → Option ℕ)
    (c f : ℕ) : Type 0 where
  pub vertex : ℕ
  pub end : IsEnd g f vertex
  pub holder : holds (chain_of bs vertex) c ≡ true
  pub mate : m (outermost bs vertex) ≡ Some f

-- a node within another one has at most the edge that is spread to it
abbrev pub IsBare : Multigraph → List Blossom → (ℕ → Option ℕ) → Type 0
IsBare g bs m = (c f : ℕ) → is_child bs c ≡ true → m c ≡ Some f → IsFromAbove g bs m c f

-- the child of the blossom that holds an end of the edge
pub record IsBase (g : Multigraph) (bs : List Blossom) (b e base : ℕ) : Type 0 where
  pub end : ℕ
  pub end_vertex : is_vertex g.vertices end ≡ true
  pub end_of_edge : (end ≡ (edge_of g e).u) ⊎ (end ≡ (edge_of g e).v)
  pub end_in : holds (members_of bs b) end ≡ true
  pub base_holds : child_holding bs b end ≡ base

-- a blossom has a mate, and the child of it where that ends has the same one
pub record IsBasedByMate (g : Multigraph) (bs : List Blossom) (m : ℕ → Option ℕ)
    (b base : ℕ) : Type 0 where
  pub edge : ℕ
  pub mate : m b ≡ Some edge
  pub is_base : IsBase g bs b edge base
  pub base_mate : m base ≡ Some edge

-- the node of a circuit that isn't paired where none has a mate: a given one, or else the first
abbrev pub base_by : List Link → ℕ → ℕ
base_by ring inner = if inner == 0 then next_node ring 0 else inner

-- the node of a circuit that isn't paired: one with a mate, if there is one
abbrev pub base_in : (ℕ → Option ℕ) → List Link → ℕ → ℕ
base_in m ring inner =
    if first_matched m ring == 0 then base_by ring inner else first_matched m ring

-- a blossom has no mate, and the child that isn't to be paired is that one of its circuit
pub record IsBasedFree (bs : List Blossom) (m : ℕ → Option ℕ) (b inner base : ℕ) : Type 0 where
  pub free : m b ≡ None
  pub base_is : base_by (ring_of bs b) inner ≡ base
  pub base_in : in_ring (ring_of bs b) base ≡ true
  pub base_free : m base ≡ None

-- a blossom of the family on the graph's vertices; of the nodes of its circuit none has a mate but
-- the base, which has that of the blossom
pub record CanOpen (g : Multigraph) (f : Family) (m : ℕ → Option ℕ) (b inner : ℕ) : Type 0 where
  pub family : IsFamily f
  pub vertices : f.vertex_count ≡ g.vertices
  pub ends : All (IsEdgeWithin g.vertices) g.edges
  pub blossom : holds (names_of f.blossoms) b ≡ true
  pub ring : IsRing g (older_than f.blossoms b) (ring_of f.blossoms b)
  pub base : ℕ
  pub based : IsBasedByMate g f.blossoms m b base ⊎ IsBasedFree f.blossoms m b inner base
  pub only : (c : ℕ) → in_ring (ring_of f.blossoms b) c ≡ true → c ≢ base → m c ≡ None
  pub bare : IsBare g (older_than f.blossoms b) m
  pub spread : (a : ℕ) → IsSpread g (older_than f.blossoms b) m a

-- the child that holds the end of the blossom's mate takes that edge
pub record TakesMate (g : Multigraph) (older : List Blossom) (node base : ℕ) (members : List ℕ)
    (m n : ℕ → Option ℕ) : Type 0 where
  pub edge : ℕ
  pub mate : m node ≡ Some edge
  pub end : ℕ
  pub end_of_edge : (end ≡ (edge_of g edge).u) ⊎ (end ≡ (edge_of g edge).v)
  pub end_in : holds members end ≡ true
  pub base_holds : outermost older end ≡ base
  pub new_base : n base ≡ Some edge

-- the blossom has no mate, and this child of it stays without one
pub record StaysFree (node base inner : ℕ) (ring : List Link) (m n : ℕ → Option ℕ) : Type 0 where
  pub free : m node ≡ None
  pub base_is : base_by ring inner ≡ base
  pub base_free : n base ≡ None

-- The circuit of a blossom is matched: one child takes the blossom's mate, or stays without one
-- where that has none, and the others, from behind it round to it, are paired. Nodes within these
-- may change their mates.
pub record Opens (g : Multigraph) (older : List Blossom) (node inner : ℕ) (ring : List Link)
    (members : List ℕ) (m n : ℕ → Option ℕ) : Type 0 where
  pub before : List Link
  pub base : Link
  pub behind : List Link
  pub split : ring ≡ before ++ (base ∷ behind)
  pub based : TakesMate g older node base.node members m n ⊎ StaysFree node base.node inner ring m n
  pub new_pairs : ArePaired n (behind ++ before)
  pub others : (c : ℕ) → in_ring ring c ≡ false → is_child older c ≡ false → n c ≡ m c

-- The blossoms are opened one after the other, the newest first. Of one without a mate the child by
-- `inner` stays without one, too, and the first where that is none.
abbrev pub Unpacks : Multigraph → List Blossom → (ℕ → ℕ) → (ℕ → Option ℕ) → (ℕ → Option ℕ) → Type 0
Unpacks g [] inner m final = final ≡ m
Unpacks g (b ∷ older) inner m final = (n : ℕ → Option ℕ)
    × Opens g older b.node (inner b.node) b.ring b.members m n × Unpacks g older inner n final

-- what is given for each blossom is one of its children, or none
abbrev pub AreInner : List Blossom → (ℕ → ℕ) → Type 0
AreInner bs inner = (b : ℕ) → holds (names_of bs) b ≡ true
    → (inner b ≡ 0) ⊎ (in_ring (ring_of bs b) (inner b) ≡ true)

-- for each blossom that holds a vertex its child that does, and none for the others
abbrev pub LeadsTo : List Blossom → ℕ → (ℕ → ℕ) → Type 0
LeadsTo bs v inner = (b : ℕ) → holds (names_of bs) b ≡ true
    → inner b ≡ (if holds (members_of bs b) v then child_holding bs b v else 0)

-- a family on the graph's vertices in which mates are mutual, and nodes within have at most those
-- of the nodes around them
pub record CanMark (g : Multigraph) (f : Family) (m : ℕ → Option ℕ) : Type 0 where
  pub family : IsFamily f
  pub vertices : f.vertex_count ≡ g.vertices
  pub ends : All (IsEdgeWithin g.vertices) g.edges
  pub mated : AreMated g f.blossoms m
  pub bare : IsBare g f.blossoms m

-- a family on the graph's vertices with its circuits, in which mates are mutual, and kept at the
-- nodes within as well
pub record CanUnpack (g : Multigraph) (f : Family) (m : ℕ → Option ℕ) : Type 0 where
  pub family : IsFamily f
  pub vertices : f.vertex_count ≡ g.vertices
  pub ends : All (IsEdgeWithin g.vertices) g.edges
  pub rings : HasRings g f.blossoms
  pub mated : AreMated g f.blossoms m
  pub bare : IsBare g f.blossoms m
  pub spread : (a : ℕ) → IsSpread g f.blossoms m a
