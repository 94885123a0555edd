-- The nodes of two trees are labelled out and listed no more. Only clauses of private calls cite
-- this module.
use Rattle.std.specs.Prelude.{◌≡◌, ◌≢◌, ℕ, Bool, true, false, not, ◌&&◌, ◌||◌, ◌==◌, if◌then◌else◌}
use Rattle.std.specs.Prelude.{nat_eq, is_some, Option, Some, None, length}
use Rattle.std.specs.List.{IsDistinct}
use Rattle.graph_theory.specs.Parts.{holds}
use Rattle.blossom_arena.specs.Family.{is_vertex, is_outermost, outermost}
use Rattle.blossom_arena.specs.declared.label.Label.TheVariants.{Out}
use Rattle.alt_forest.specs.declared.search.Search.{Search}
use Rattle.alt_forest.specs.Searches.{label_at}
use Rattle.alt_forest.specs.TreeNodes.{AreListed, tree_id_at}
use Rattle.alt_forest.specs.Trees.{is_label}

-- a node is outermost and in a tree
abbrev pub stands : Search → ℕ → Bool
stands s a = is_outermost s.graph.vertices s.arena.blossoms a
    && not (is_label (label_at s.labels.items a) Out)

-- a node has one of these two vertices as its tree id
abbrev pub is_either : ℕ → ℕ → Option ℕ → Bool
is_either one other None = false
is_either one other (Some v) = (v == one) || (v == other)

-- a node of one of the trees of these two tree ids
abbrev pub falls : Search → ℕ → ℕ → ℕ → Bool
falls s one other a = stands s a && is_either one other (tree_id_at s.tree_nodes.tree_ids a)

-- each node in a tree is listed
abbrev pub AreSeeded : Search → Type 0
AreSeeded s = (a : ℕ) → stands s a ≡ true → is_some (tree_id_at s.tree_nodes.tree_ids a) ≡ true

-- a node is listed that is to leave the list: it stands no more, or is of one of the trees of two
-- tree ids
pub record Leaves (s : Search) (one other a : ℕ) : Type 0 where
  pub listed : is_some (tree_id_at s.tree_nodes.tree_ids a) ≡ true
  pub tree_id : stands s a ≡ true → is_either one other (tree_id_at s.tree_nodes.tree_ids a) ≡ true

-- no node of the two trees is listed any more, and what is listed, if anything is, has a node that
-- stands
pub record AreGone (s : Search) (one other : ℕ) : Type 0 where
  pub none : (a : ℕ) → is_either one other (tree_id_at s.tree_nodes.tree_ids a) ≡ false
  pub some : length s.tree_nodes.nodes ≢ 0 → (a : ℕ) × (stands s a ≡ true)

-- Exactly the nodes of the two trees that s has are labelled out, none of them is listed, but all
-- others in trees are, and the vertices of the two trees, none of them twice, are to be looked at.
pub record IsFelled (s t : Search) (one other : ℕ) : Type 0 where
  pub listed : AreListed t.graph.vertices t.tree_nodes.nodes t.tree_nodes.tree_ids
  pub labels : (a : ℕ)
      → label_at t.labels.items a ≡ (if falls s one other a then Out else label_at s.labels.items a)
  pub tree_ids : (a v : ℕ) → tree_id_at t.tree_nodes.tree_ids a ≡ Some v
      → tree_id_at s.tree_nodes.tree_ids a ≡ Some v
  pub all : (a : ℕ) → stands s a ≡ true → falls s one other a ≡ false
      → is_some (tree_id_at t.tree_nodes.tree_ids a) ≡ true
  pub some : length t.tree_nodes.nodes ≢ 0 → (a : ℕ) × (stands t a ≡ true)
  pub different : IsDistinct nat_eq t.scanned.items
  pub inside : (w : ℕ) → holds t.scanned.items w ≡ true → (is_vertex s.graph.vertices w ≡ true)
      × (falls s one other (outermost s.arena.blossoms w) ≡ true)
  pub scans : (w : ℕ) → is_vertex s.graph.vertices w ≡ true
      → falls s one other (outermost s.arena.blossoms w) ≡ true → holds t.scanned.items w ≡ true
