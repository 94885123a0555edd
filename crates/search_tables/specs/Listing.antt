-- The nodes that are listed, each with its tree id.
use Rattle.std.specs.Prelude.{ℕ, List, slice_index_or, Option, None}

-- the nodes that are listed, and by number the tree id of each, or None if it isn't listed
pub record Listing : Type 0 where
  pub nodes : List ℕ
  pub tree_ids : List (Option ℕ)

-- the tree id of a node: a vertex that is kept for it, if it is listed
abbrev pub tree_id_at : List (Option ℕ) → ℕ → Option ℕ
tree_id_at tree_ids a = slice_index_or tree_ids a None
