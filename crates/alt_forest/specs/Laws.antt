-- What holds in each tree of a search (chapters 24 and 26).
use Rattle.std.specs.Prelude.{◌≡◌, ◌≢◌, ◌⊎◌, ℕ, ◌+◌, true, None}
use Rattle.graph_theory.specs.Graph.{IsGraph}
use Rattle.graph_theory.specs.Parts.{holds}
use Rattle.blossom_arena.specs.Family.{IsNested, is_vertex, outermost}
use Rattle.blossom_arena.specs.declared.label.Label.TheVariants.{Outer, Inner, Out}
use Rattle.alt_forest.specs.State.{State, IsOutermost, IsSearchState}
use Rattle.alt_forest.specs.Counts.{exposed_count, IsMatched, tree_count}
use Rattle.alt_forest.specs.Trees.{path_of, root_of, IsRoot, dual_sum, SameParity, labelled}

-- the way from a node in a tree leads through outermost nodes in trees to a root
pub record LeadsToRoot (s : State) (a : ℕ) : Type 0 where
  pub root : IsRoot s (root_of s a)
  pub outermost : (x : ℕ) → holds (path_of s a) x ≡ true → IsOutermost s x
  pub in_tree : (x : ℕ) → holds (path_of s a) x ≡ true → s.label x ≢ Out

abbrev pub WaysLeadToRoots : Type 0
WaysLeadToRoots = (s : State) (depth : ℕ → ℕ) (a : ℕ) → IsNested s.graph.vertices s.blossoms
    → IsSearchState s depth → IsOutermost s a → s.label a ≢ Out → LeadsToRoot s a

-- the duals of the nodes that hold a vertex, added up, have one parity in one tree
abbrev pub TreesHaveParity : Type 0
TreesHaveParity = (s : State) (depth : ℕ → ℕ) (v w : ℕ) → IsGraph s.graph
    → IsNested s.graph.vertices s.blossoms → IsSearchState s depth
    → is_vertex s.graph.vertices v ≡ true → is_vertex s.graph.vertices w ≡ true
    → s.label (outermost s.blossoms v) ≢ Out → s.label (outermost s.blossoms w) ≢ Out
    → root_of s (outermost s.blossoms v) ≡ root_of s (outermost s.blossoms w)
    → SameParity (dual_sum s v) (dual_sum s w)

-- a tree has one outer node more than inner ones
abbrev pub TreesBalance : Type 0
TreesBalance = (s : State) (depth : ℕ → ℕ) (root : ℕ) → IsNested s.graph.vertices s.blossoms
    → IsSearchState s depth → IsRoot s root
    → labelled s root Outer ≡ labelled s root Inner + 1

-- an outermost node that is in a tree or exposed
abbrev pub IsReached : State → ℕ → Type 0
IsReached s a = (s.label a ≢ Out) ⊎ (s.mate a ≡ None)

-- the same over the vertices of all trees and of all exposed nodes
abbrev pub ForestsHaveParity : Type 0
ForestsHaveParity = (s : State) (depth : ℕ → ℕ) (v w : ℕ) → IsGraph s.graph
    → IsNested s.graph.vertices s.blossoms → IsSearchState s depth
    → is_vertex s.graph.vertices v ≡ true → is_vertex s.graph.vertices w ≡ true
    → IsReached s (outermost s.blossoms v) → IsReached s (outermost s.blossoms w)
    → SameParity (dual_sum s v) (dual_sum s w)

-- if there is a tree by count there is a root
abbrev pub RootsCounted : Type 0
RootsCounted = (s : State) → tree_count s ≢ 0 → (root : ℕ) × IsRoot s root

-- no exposed node by count means that each outermost node has a mate
abbrev pub ExposedCounted : Type 0
ExposedCounted = (s : State) → IsNested s.graph.vertices s.blossoms → exposed_count s ≡ 0
    → IsMatched s
