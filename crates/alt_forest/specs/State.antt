-- The state of a search for a perfect matching (Schrijver, Combinatorial Optimization, volume A,
-- chapters 24 and 26): a nested family of odd sets with duals, a matching of its outermost nodes,
-- and alternating trees over these.
--
-- A node is a vertex or a blossom. Labels, parents and mates mean something for outermost nodes
-- alone.
use Rattle.std.specs.Prelude.{◌≡◌, ◌≢◌, ℕ, ◌<◌, ◌⊎◌, ℤ, pos, ◌≤ℤ◌, ◌+ℤ◌, ◌-ℤ◌, ◌*ℤ◌, Bool, true}
use Rattle.std.specs.Prelude.{if◌then◌else◌, List, [], ◌∷◌, Option, Some, None}
use Rattle.std.specs.List.{AllByRecursion}
use Rattle.graph_theory.specs.declared.edge.Edge.{Edge}
use Rattle.graph_theory.specs.Graph.{Multigraph, IsEdgeNumber, edge_of}
use Rattle.blossom_arena.specs.declared.links.Link.{Link}
use Rattle.blossom_arena.specs.Family.{Blossom, outermost, is_outermost, is_vertex}
use Rattle.blossom_arena.specs.Slack.{duals_across}
pub use Rattle.blossom_arena.specs.Slack.{held_by}
pub use Rattle.blossom_arena.specs.Tables.{next_node}
use Rattle.blossom_arena.specs.declared.label.Label.{Label}
use Rattle.blossom_arena.specs.declared.label.Label.TheVariants.{Outer, Inner, Out}

-- duals, labels, edges to parents and edges to mates by node; `weighted` says whether slacks use
-- the weights or 0
pub record State : Type 0 where
  pub graph : Multigraph
  pub weighted : Bool
  pub blossoms : List Blossom
  pub dual : ℕ → ℤ
  pub label : ℕ → Label
  pub parent : ℕ → Option ℕ
  pub mate : ℕ → Option ℕ

abbrev pub IsOutermost : State → ℕ → Type 0
IsOutermost s a = is_outermost s.graph.vertices s.blossoms a ≡ true

-- an outermost node without a mate
abbrev pub IsExposed : State → ℕ → Type 0
IsExposed s a = IsOutermost s a × (s.mate a ≡ None)

-- the outermost nodes that hold the two ends of an edge
abbrev pub node_u : Multigraph → List Blossom → ℕ → ℕ
node_u g bs e = outermost bs (edge_of g e).u

abbrev pub node_v : Multigraph → List Blossom → ℕ → ℕ
node_v g bs e = outermost bs (edge_of g e).v

-- edge e has its ends in the outermost nodes a and b
abbrev pub Joins : Multigraph → List Blossom → ℕ → ℕ → ℕ → Type 0
Joins g bs e a b = ((node_u g bs e ≡ a) × (node_v g bs e ≡ b))
    ⊎ ((node_u g bs e ≡ b) × (node_v g bs e ≡ a))

-- twice the weight of an edge, or 0 in the pass without weights
abbrev pub doubled : Multigraph → Bool → ℕ → ℤ
doubled g weighted e = if weighted then pos 2 *ℤ (edge_of g e).w else pos 0

-- the slack of an edge: its doubled weight without the duals of the nodes that hold exactly one of
-- its ends
abbrev pub slack_with : Multigraph → Bool → (ℕ → ℤ) → List Blossom → ℕ → ℤ
slack_with g weighted y bs e = doubled g weighted e -ℤ duals_across y bs (edge_of g e)

-- the same of an edge that is given whole
abbrev pub slack_by : Bool → (ℕ → ℤ) → List Blossom → Edge → ℤ
slack_by weighted y bs e = (if weighted then pos 2 *ℤ e.w else pos 0) -ℤ duals_across y bs e

abbrev pub slack_of : State → ℕ → ℤ
slack_of s e = slack_with s.graph s.weighted s.dual s.blossoms e

-- an edge of slack 0
pub record IsTight (s : State) (e : ℕ) : Type 0 where
  pub edge : IsEdgeNumber s.graph e
  pub tight : slack_of s e ≡ pos 0

-- each link's edge leads to the next node, that of the last one to `after`
abbrev pub IsChainTo : Multigraph → List Blossom → List Link → ℕ → Type 0
IsChainTo g bs [] after = Unit {0}
IsChainTo g bs (l ∷ rest) after = IsEdgeNumber g l.edge
    × Joins g bs l.edge l.node (next_node rest after) × IsChainTo g bs rest after

-- the edges of a circuit join its neighbours, the last of them the first
abbrev pub IsRing : Multigraph → List Blossom → List Link → Type 0
IsRing g bs ring = IsChainTo g bs ring (next_node ring 0)

-- each blossom's circuit is a ring among the nodes that were outermost when it was made
abbrev pub HasRings : Multigraph → List Blossom → Type 0
HasRings g [] = Unit {0}
HasRings g (b ∷ older) = IsRing g older b.ring × HasRings g older

-- edge e is the mate of the two outermost nodes a and b that it joins, and tight
pub record IsMate (s : State) (a e b : ℕ) : Type 0 where
  pub edge : IsEdgeNumber s.graph e
  pub joins : Joins s.graph s.blossoms e a b
  pub different : a ≢ b
  pub tight : slack_of s e ≡ pos 0
  pub outermost : IsOutermost s b
  pub back : s.mate b ≡ Some e

-- an inner node hangs by a tight edge, its parent, under an outer node that is nearer to the root;
-- its one child is its mate, which is outer
pub record IsInner (s : State) (depth : ℕ → ℕ) (a : ℕ) : Type 0 where
  pub edge : ℕ
  pub up : ℕ
  pub parent : s.parent a ≡ Some edge
  pub is_edge : IsEdgeNumber s.graph edge
  pub joins : Joins s.graph s.blossoms edge a up
  pub tight : slack_of s edge ≡ pos 0
  pub up_is : IsOutermost s up
  pub up_outer : s.label up ≡ Outer
  pub falls : depth up < depth a
  pub child_edge : ℕ
  pub child : ℕ
  pub mate : s.mate a ≡ Some child_edge
  pub is_mate : IsMate s a child_edge child
  pub child_outer : s.label child ≡ Outer
  pub rises : depth a < depth child

-- what the label of an outermost node says. An outer node without a mate is a root; another one
-- hangs by its mate under an inner node that is nearer to the root. A node labelled out is exposed,
-- or its mate is labelled out.
pub record FitsLabel (s : State) (depth : ℕ → ℕ) (a : ℕ) : Type 0 where
  pub outer : s.label a ≡ Outer → (e b : ℕ) → s.mate a ≡ Some e → IsMate s a e b
      → (s.label b ≡ Inner) × (depth b < depth a)
  pub inner : s.label a ≡ Inner → IsInner s depth a
  pub out : s.label a ≡ Out → (e b : ℕ) → s.mate a ≡ Some e → IsMate s a e b → s.label b ≡ Out

-- the duals of all nodes that hold v, added up
abbrev pub dual_sum : State → ℕ → ℤ
dual_sum s v = s.dual v +ℤ held_by s.dual s.blossoms v

-- two numbers that differ by an even one
abbrev pub SameParity : ℤ → ℤ → Type 0
SameParity x y = (half : ℤ) × (x ≡ y +ℤ (half +ℤ half))

-- any two vertices in exposed outermost nodes have dual sums of one parity
abbrev pub ExposedAgree : State → Type 0
ExposedAgree s = (v w : ℕ) → is_vertex s.graph.vertices v ≡ true
    → is_vertex s.graph.vertices w ≡ true → s.mate (outermost s.blossoms v) ≡ None
    → s.mate (outermost s.blossoms w) ≡ None
    → SameParity (dual_sum s v) (dual_sum s w)

-- The state of a search. `depth` ranks the nodes of the trees: it falls on the way to a root, so
-- each node reaches one.
pub record IsSearchState (s : State) (depth : ℕ → ℕ) : Type 0 where
  -- each blossom's circuit is a ring, of tight edges
  pub rings : HasRings s.graph s.blossoms
  pub tight_rings : AllByRecursion
      (λ (b : Blossom). AllByRecursion (λ (l : Link). IsTight s l.edge) b.ring) s.blossoms
  -- no slack is negative, nor any blossom's dual
  pub slacks : (e : ℕ) → IsEdgeNumber s.graph e → pos 0 ≤ℤ slack_of s e
  pub duals : AllByRecursion (λ (b : Blossom). pos 0 ≤ℤ s.dual b.node) s.blossoms
  -- mates pair outermost nodes by tight edges, each the mate of both its nodes
  pub mates : (a e : ℕ) → IsOutermost s a → s.mate a ≡ Some e → (b : ℕ) × IsMate s a e b
  -- the dual sums of the vertices of exposed nodes have one parity, whatever trees stand, so that
  -- the slack of an edge between two trees is even
  pub parity : ExposedAgree s
  -- the trees, and the nodes in none
  pub labels : (a : ℕ) → IsOutermost s a → FitsLabel s depth a
