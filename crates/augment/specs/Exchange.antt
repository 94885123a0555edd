-- What taking two trees away comes to. Only clauses of private calls cite this module.
use Rattle.std.specs.Prelude.{◌≡◌, ◌≢◌, ℕ, true, false, nat_eq, Some, length}
use Rattle.std.specs.List.{IsDistinct}
use Rattle.graph_theory.specs.Parts.{holds}
use Rattle.blossom_arena.specs.Family.{is_vertex, outermost}
use Rattle.blossom_arena.specs.declared.label.Label.TheVariants.{Out}
use Rattle.alt_forest.specs.declared.search.Search.{Search}
use Rattle.alt_forest.specs.State.{IsOutermost}
use Rattle.alt_forest.specs.Trees.{path_of, root_of}
use Rattle.alt_forest.specs.Searches.{state_of, label_at, edge_in}
use Rattle.alt_forest.specs.TreeNodes.{HasTreeNodes}
use Rattle.augment.specs.Turns.{IsRemoved}

-- The edge e is the mate of both nodes, their trees are taken away, and just the vertices of these
-- are to be looked at. If anything is listed a tree stands.
pub record IsExchanged (s t : Search) (e one other : ℕ) : Type 0 where
  pub removed : IsRemoved (state_of s) (edge_in t.mates.items) (label_at t.labels.items)
      (root_of (state_of s) one) (root_of (state_of s) other)
  pub one_has : edge_in t.mates.items one ≡ Some e
  pub other_has : edge_in t.mates.items other ≡ Some e
  pub keeps : (a : ℕ) → holds (path_of (state_of s) one) a ≡ false
      → holds (path_of (state_of s) other) a ≡ false
      → edge_in t.mates.items a ≡ edge_in s.mates.items a
  pub listed : HasTreeNodes t
  pub some : length t.tree_nodes.nodes ≢ 0 → (a : ℕ) × (IsOutermost (state_of s) a)
      × (label_at t.labels.items a ≢ Out)
  pub different : IsDistinct nat_eq t.scanned.items
  pub vertices : (w : ℕ) → holds t.scanned.items w ≡ true → is_vertex s.graph.vertices w ≡ true
  pub gone : (w : ℕ) → holds t.scanned.items w ≡ true
      → (label_at s.labels.items (outermost s.arena.blossoms w) ≢ Out)
      × (label_at t.labels.items (outermost s.arena.blossoms w) ≡ Out)
  pub scans : (w : ℕ) → is_vertex s.graph.vertices w ≡ true → holds t.scanned.items w ≡ false
      → label_at t.labels.items (outermost s.arena.blossoms w)
      ≡ label_at s.labels.items (outermost s.arena.blossoms w)
