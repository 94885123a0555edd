-- The lists of a search before there is a tree. No public clause cites this module.
use Rattle.std.specs.Prelude.{◌≡◌, ℕ, ◌+◌, ◌≤◌, [], None, length, vec_len}
use Rattle.std.specs.Vec.{vec_capacity}
use Rattle.blossom_arena.specs.declared.label.Label.TheVariants.{Out}
use Rattle.alt_forest.specs.declared.starts.SearchLists.{SearchLists}
use Rattle.search_tables.specs.Listing.{tree_id_at}
use Rattle.alt_forest.specs.Searches.{edge_in, label_at}

-- no node up to this number is in a tree, has a mate or is listed, and there is room for so many
-- vertices
pub record AreBlank (limit vertices : ℕ) (lists : SearchLists) : Type 0 where
  pub labels : (a : ℕ) → label_at lists.nodes.labels.items a ≡ Out
  pub parents : (a : ℕ) → edge_in lists.nodes.parents.items a ≡ None
  pub mates : (a : ℕ) → edge_in lists.nodes.mates.items a ≡ None
  pub tree_ids : (a : ℕ) → tree_id_at lists.tree_nodes.tree_ids a ≡ None
  pub listed : lists.tree_nodes.nodes ≡ []
  pub label_places : vec_len lists.nodes.labels ≡ limit + 1
  pub parent_places : vec_len lists.nodes.parents ≡ limit + 1
  pub mate_places : vec_len lists.nodes.mates ≡ limit + 1
  pub tree_id_places : length lists.tree_nodes.tree_ids ≡ limit + 1
  pub circuit : vertices ≤ vec_capacity lists.room.circuit
  pub scanned : vertices ≤ vec_capacity lists.room.scanned
