-- How the nodes that are listed are kept on circular lists. No public clause cites this module.
use Rattle.std.specs.Prelude.{◌≡◌, ℕ, ◌+◌, ◌<◌, ◌≤◌, true, List, length, get_or, slice_index_or}
use Rattle.std.specs.Prelude.{Option, is_some, vec_len}
use Rattle.std.specs.Vec.{vec_capacity}
use Rattle.circular_lists.specs.Linked.{AreOwned, HasLinks, link_at}
use Rattle.search_tables.specs.declared.tree_nodes.TreeNodes.TheInside.{Inside}
use Rattle.search_tables.specs.Listing.{Listing, tree_id_at}

-- the place of a node in the list
abbrev pub place_at : List ℕ → ℕ → ℕ
place_at places a = slice_index_or places a 0

-- each node that is listed stands at its place
pub record ArePlaced (nodes : List ℕ) (place : ℕ → ℕ) (tree_id : ℕ → Option ℕ) : Type 0 where
  pub within : (a : ℕ) → is_some (tree_id a) ≡ true → place a < length nodes
  pub in_tree : (a : ℕ) → is_some (tree_id a) ≡ true → get_or nodes (place a) 0 ≡ a
  pub seeded : (k : ℕ) → k < length nodes → is_some (tree_id (get_or nodes k 0)) ≡ true
  pub back : (k : ℕ) → k < length nodes → place (get_or nodes k 0) ≡ k

abbrev pub listing_of : Inside → Listing
listing_of s = record { nodes = s.nodes.items; tree_ids = s.tree_ids.items }

-- the nodes that are listed, each at its place and on the list of its tree id
pub record IsKept (s : Inside) : Type 0 where
  pub room : vec_len s.tree_ids ≤ vec_capacity s.nodes
  pub places : vec_len s.places ≡ vec_len s.tree_ids
  pub links : HasLinks s.lists (length s.tree_ids.items + length s.tree_ids.items)
  pub placed : ArePlaced s.nodes.items (place_at s.places.items) (tree_id_at s.tree_ids.items)
  pub owned : AreOwned (length s.tree_ids.items) (tree_id_at s.tree_ids.items)
      (link_at s.lists.next.items)
      (link_at s.lists.previous.items)
