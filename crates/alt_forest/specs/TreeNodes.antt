-- The nodes in trees, each with a vertex of the root of its tree, and how their duals move. What is
-- listed is at least the outermost nodes in trees.
use Rattle.std.specs.Prelude.{◌≡◌, ◌≢◌, ℕ, ◌≤◌, true, nat_eq, List, All, Option, Some, is_some}
use Rattle.std.specs.List.{IsDistinct}
use Rattle.graph_theory.specs.Parts.{holds}
use Rattle.blossom_arena.specs.Family.{is_vertex, outermost}
use Rattle.blossom_arena.specs.declared.label.Label.TheVariants.{Out}
use Rattle.alt_forest.specs.declared.search.Search.{Search}
pub use Rattle.search_tables.specs.Listing.{tree_id_at}
use Rattle.alt_forest.specs.State.{State, IsOutermost}
use Rattle.alt_forest.specs.Searches.{label_at, state_of}
use Rattle.alt_forest.specs.Trees.{node_limit, root_of}

-- different nodes of a graph with n vertices, and exactly these have a tree id
pub record AreListed (n : ℕ) (nodes : List ℕ) (tree_ids : List (Option ℕ)) : Type 0 where
  pub different : IsDistinct nat_eq nodes
  pub in_range : All (λ a. (1 ≤ a) × (a ≤ node_limit n)) nodes
  pub seeded : (a : ℕ) → is_some (tree_id_at tree_ids a) ≡ holds nodes a

-- the vertex v is kept for a node in a tree, and lies in the root of that tree
pub record IsTreeId (s : State) (a v : ℕ) : Type 0 where
  pub vertex : is_vertex s.graph.vertices v ≡ true
  pub root : outermost s.blossoms v ≡ root_of s a

-- each outermost node moves as its label says
abbrev pub AreMoving : Search → Type 0
AreMoving s = (a : ℕ) → IsOutermost (state_of s) a
    → label_at s.arena.motions a ≡ label_at s.labels.items a

-- each outermost node of a tree is listed, with a vertex of its root, and all those of one tree
-- with the same one; others may be listed, until no tree stands; and each outermost node moves as
-- its label says
pub record HasTreeNodes (s : Search) : Type 0 where
  pub listed : AreListed s.graph.vertices s.tree_nodes.nodes s.tree_nodes.tree_ids
  pub trees : (a : ℕ) → IsOutermost (state_of s) a → (state_of s).label a ≢ Out
      → (v : ℕ) × (tree_id_at s.tree_nodes.tree_ids a ≡ Some v) × IsTreeId (state_of s) a v
  pub same : (a b : ℕ) → IsOutermost (state_of s) a → IsOutermost (state_of s) b
      → (state_of s).label a ≢ Out → (state_of s).label b ≢ Out
      → root_of (state_of s) a ≡ root_of (state_of s) b
      → tree_id_at s.tree_nodes.tree_ids a ≡ tree_id_at s.tree_nodes.tree_ids b
  pub moves : AreMoving s
