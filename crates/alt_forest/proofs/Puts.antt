-- Writes to a table of duals, as functions.
use Rattle.graph_theory.proofs.Common.{◌≡◌, ℕ, ◌<◌, ℤ, pos, List, length, slice_set}
use Rattle.blossom_arena.specs.Family.{dual_at}
use Rattle.alt_forest.specs.Searches.{put}
use Rattle.search_tables.proofs.Updates.{put_entry}

pub put_dual : (ys : List ℤ) (a : ℕ) (y : ℤ) → a < length ys → dual_at (slice_set ys a y) ≡ put (dual_at ys) a y
put_dual ys a y below = put_entry ys a y (pos 0) below
