-- The way from a node to the root of its tree, and what holds within one tree (chapter 24).
use Rattle.std.specs.Prelude.{◌≡◌, ℕ, zero, suc, ◌+◌, Bool, true, false, ◌==◌, ◌&&◌, if◌then◌else◌}
use Rattle.std.specs.Prelude.{List, [], ◌∷◌, length, Option, Some, None}
use Rattle.std.specs.List.{filter, range_with_len}
use Rattle.graph_theory.specs.Graph.{Multigraph}
use Rattle.graph_theory.specs.Parts.{holds}
use Rattle.graph_theory.specs.Nested.{most_blossoms}
pub use Rattle.blossom_arena.specs.Tables.{last_of}
use Rattle.blossom_arena.specs.Family.{Blossom, is_outermost}
use Rattle.blossom_arena.specs.declared.label.Label.{Label}
use Rattle.blossom_arena.specs.declared.label.Label.TheVariants.{Outer, Inner, Out}
use Rattle.alt_forest.specs.State.{State, IsOutermost, node_u, node_v}
pub use Rattle.alt_forest.specs.State.{held_by, dual_sum, SameParity}

-- the greatest number that a node of a graph with n vertices can have
abbrev pub node_limit : ℕ → ℕ
node_limit n = n + most_blossoms n

-- the outermost node at the other end of an edge from this one
abbrev pub other_node : Multigraph → List Blossom → ℕ → ℕ → ℕ
other_node g bs e a = if node_u g bs e == a then node_v g bs e else node_u g bs e

-- the edge towards the root: an outer node's mate, an inner node's parent
abbrev pub up_edge_by : State → Label → ℕ → Option ℕ
up_edge_by s Outer a = s.mate a
up_edge_by s Inner a = s.parent a
up_edge_by s Out a = None

abbrev pub up_edge : State → ℕ → Option ℕ
up_edge s a = up_edge_by s (s.label a) a

abbrev pub far_end : State → Option ℕ → ℕ → ℕ
far_end s None a = 0
far_end s (Some e) a = other_node s.graph s.blossoms e a

-- the next node towards the root, or 0
abbrev pub up_of : State → ℕ → ℕ
up_of s a = far_end s (up_edge s a) a

-- a node and those above it, so many at most
abbrev pub path_within : ℕ → State → ℕ → List ℕ
path_within zero s a = []
path_within (suc k) s a = if a == 0 then [] else a ∷ path_within k s (up_of s a)

-- the nodes from a node to the root of its tree, both included
abbrev pub path_of : State → ℕ → List ℕ
path_of s a = path_within (node_limit s.graph.vertices + 1) s a

-- the root of a node's tree
abbrev pub root_of : State → ℕ → ℕ
root_of s a = last_of 0 (path_of s a)

-- a root: outer and exposed
pub record IsRoot (s : State) (a : ℕ) : Type 0 where
  pub outermost : IsOutermost s a
  pub outer : s.label a ≡ Outer
  pub exposed : s.mate a ≡ None

-- the first node of the one list that the other list has
abbrev pub first_common : List ℕ → List ℕ → Option ℕ
first_common [] ys = None
first_common (x ∷ xs) ys = if holds ys x then Some x else first_common xs ys

abbrev pub is_label : Label → Label → Bool
is_label Outer Outer = true
is_label Inner Inner = true
is_label Out Out = true
is_label one other = false

-- how many nodes of the tree of this root have a label
abbrev pub labelled : State → ℕ → Label → ℕ
labelled s root label = length
    (filter (λ a. is_outermost s.graph.vertices s.blossoms a
    && (is_label (s.label a) label && (root_of s a == root)))
    (range_with_len 1 (node_limit s.graph.vertices)))
