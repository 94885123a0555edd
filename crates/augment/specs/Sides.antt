-- The vertices of the outer nodes that are listed. Only clauses of private calls cite this module.
use Rattle.std.specs.Prelude.{ℕ, Bool, ◌&&◌, if◌then◌else◌, List, []}
use Rattle.std.specs.List.{flat_map}
use Rattle.blossom_arena.specs.Family.{is_outermost, members_of}
use Rattle.blossom_arena.specs.declared.label.Label.TheVariants.{Outer}
use Rattle.alt_forest.specs.declared.search.Search.{Search}
use Rattle.alt_forest.specs.Searches.{label_at}
use Rattle.alt_forest.specs.Trees.{is_label}

-- a node is outermost and outer
abbrev pub is_outer : Search → ℕ → Bool
is_outer s a = is_outermost s.graph.vertices s.arena.blossoms a
    && is_label (label_at s.labels.items a) Outer

-- the vertices of a node, if it is outer
abbrev pub outer_part : Search → ℕ → List ℕ
outer_part s a = if is_outer s a then members_of s.arena.blossoms a else []

-- the vertices of all outer nodes that are listed
abbrev pub outer_vertices : Search → List ℕ
outer_vertices s = flat_map (outer_part s) s.tree_nodes.nodes
