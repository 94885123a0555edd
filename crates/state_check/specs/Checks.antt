-- What `check_search` looks at, node by node and blossom by blossom. Only clauses of private calls
-- cite this module.
use Rattle.std.specs.Prelude.{◌≡◌, ◌⊎◌, ℕ, ℤ, pos, Bool, true, if◌then◌else◌, Option, Some, None}
use Rattle.std.specs.List.{AllByRecursion}
use Rattle.graph_theory.specs.Graph.{IsEdgeNumber, edge_of}
use Rattle.graph_theory.specs.Parts.{holds}
use Rattle.blossom_arena.specs.declared.links.Link.{Link}
use Rattle.blossom_arena.specs.Family.{members_of, ring_of, older_than, outermost, is_vertex}
use Rattle.blossom_arena.specs.declared.label.Label.{Label}
use Rattle.blossom_arena.specs.declared.label.Label.TheVariants.{Outer, Inner, Out}
use Rattle.alt_forest.specs.State.{State, Joins, slack_of, IsTight, IsRing, IsMate, dual_sum}
use Rattle.alt_forest.specs.State.{SameParity}
use Rattle.alt_forest.specs.Trees.{other_node}

-- the two nodes are these, in either order
abbrev pub ArePair : ℕ → ℕ → ℕ → ℕ → Type 0
ArePair near far a b = ((near ≡ a) × (far ≡ b)) ⊎ ((near ≡ b) × (far ≡ a))

-- the node of a link, or what follows the last one
abbrev pub node_or : Option Link → ℕ → ℕ
node_or None after = after
node_or (Some l) after = l.node

-- the edge of a link has its ends within a blossom, leads from its node to the next one, and is
-- tight
pub record LinkHolds (s : State) (b : ℕ) (l : Link) (next : ℕ) : Type 0 where
  pub edge : IsEdgeNumber s.graph l.edge
  pub u_within : holds (members_of s.blossoms b) (edge_of s.graph l.edge).u ≡ true
  pub v_within : holds (members_of s.blossoms b) (edge_of s.graph l.edge).v ≡ true
  pub joins : Joins s.graph (older_than s.blossoms b) l.edge l.node next
  pub tight : slack_of s l.edge ≡ pos 0

-- the circuit of a blossom is a ring of tight edges
pub record RingHolds (s : State) (b : ℕ) : Type 0 where
  pub ring : IsRing s.graph (older_than s.blossoms b) (ring_of s.blossoms b)
  pub tight : AllByRecursion (λ (l : Link). IsTight s l.edge) (ring_of s.blossoms b)

-- the edge to a node's mate, if it has one, is the mate of both its nodes
abbrev pub MateHolds : State → ℕ → Type 0
MateHolds s a = (e : ℕ) → s.mate a ≡ Some e → IsMate s a e (other_node s.graph s.blossoms e a)

-- the mate of a node, if it has one, has this label
abbrev pub MateHas : State → ℕ → Label → Type 0
MateHas s a label = (e : ℕ) → s.mate a ≡ Some e
    → s.label (other_node s.graph s.blossoms e a) ≡ label

-- a tight edge leads from a node to an outer one
pub record LeadsToOuter (s : State) (a e : ℕ) : Type 0 where
  pub is_edge : IsEdgeNumber s.graph e
  pub joins : Joins s.graph s.blossoms e a (other_node s.graph s.blossoms e a)
  pub tight : slack_of s e ≡ pos 0
  pub up_outer : s.label (other_node s.graph s.blossoms e a) ≡ Outer

-- a node hangs by a tight edge, its parent, under an outer one
pub record Hangs (s : State) (a : ℕ) : Type 0 where
  pub edge : ℕ
  pub parent : s.parent a ≡ Some edge
  pub leads : LeadsToOuter s a edge

-- and its mate is outer
pub record IsHung (s : State) (a : ℕ) : Type 0 where
  pub hangs : Hangs s a
  pub mated : (e : ℕ) × (s.mate a ≡ Some e)
  pub child_outer : MateHas s a Outer

-- what a label says of the nodes beside it
pub record FitsHere (s : State) (a : ℕ) : Type 0 where
  pub outer : s.label a ≡ Outer → MateHas s a Inner
  pub inner : s.label a ≡ Inner → IsHung s a
  pub out : s.label a ≡ Out → MateHas s a Out

-- the number is odd, or it is even
abbrev pub HasParity : ℤ → Bool → Type 0
HasParity x odd = SameParity x (if odd then pos 1 else pos 0)

-- the dual sum of a vertex, if its node is exposed, is odd, or it is even
abbrev pub DualSumHas : State → Bool → ℕ → Type 0
DualSumHas s odd v = s.mate (outermost s.blossoms v) ≡ None → HasParity (dual_sum s v) odd

-- and so are those of all vertices
abbrev pub DualSumsHave : State → Bool → Type 0
DualSumsHave s odd = (v : ℕ) → is_vertex s.graph.vertices v ≡ true → DualSumHas s odd v
