-- Motions of the nodes: writes to their table as functions, and that they are those of the labels.
use Rattle.graph_theory.proofs.Common.{◌≡◌, ℕ, ◌<◌, true, List, length, arith, slice_set}
use Rattle.blossom_arena.specs.declared.label.Label.{Label}
use Rattle.blossom_arena.specs.declared.label.Label.TheVariants.{Out}
use Rattle.blossom_arena.specs.Family.{Family, IsFamily, is_outermost}
use Rattle.blossom_arena.proofs.Nested.{node_range, outermost_parts}
use Rattle.alt_forest.specs.Searches.{label_at, put}
use Rattle.search_tables.proofs.Updates.{put_entry}

pub put_motion : (ms : List Label) (a : ℕ) (l : Label) → a < length ms → label_at (slice_set ms a l) ≡ put (label_at ms) a l
put_motion ms a l below = put_entry ms a l Out below

pub motion_place : (f : Family) (a : ℕ) → IsFamily f → is_outermost f.vertex_count f.blossoms a ≡ true → a < length f.motions
motion_place f a h outer = omega (arith, (node_range f.vertex_count f.blossoms a h.nested (outermost_parts f.vertex_count f.blossoms a outer).0).1, h.motions.one_each)
