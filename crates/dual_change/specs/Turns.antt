-- How many turns `find_bounding` takes at most. Only clauses of private calls cite this module.
use Rattle.std.specs.Prelude.{ℕ, ◌+◌, Bool, not, ◌&&◌, if◌then◌else◌, is_some}
use Rattle.graph_theory.specs.Sums.{sum_to}
use Rattle.blossom_arena.specs.Family.{is_outermost, is_vertex, outermost}
use Rattle.blossom_arena.specs.declared.label.Label.TheVariants.{Inner}
use Rattle.search_heap.specs.Moments.{Moments}
use Rattle.alt_forest.specs.declared.search.Search.{Search}
use Rattle.alt_forest.specs.State.{State}
use Rattle.alt_forest.specs.Searches.{state_of}
use Rattle.alt_forest.specs.Trees.{is_label, node_limit}
use Rattle.search_keys.specs.declared.bounds.EventBounds.{EventBounds}
use Rattle.search_keys.specs.Bounds.{bound_of}
use Rattle.search_keys.specs.Looks.{stale_ends}

-- whether nothing rests on the moment of a node: it is a vertex of an inner node, or no vertex and
-- no inner node
abbrev pub is_idle : State → ℕ → Bool
is_idle s a =
    if is_vertex s.graph.vertices a then is_label (s.label (outermost s.blossoms a)) Inner
    else not (is_outermost s.graph.vertices s.blossoms a && is_label (s.label a) Inner)

-- how many such nodes have a moment
abbrev pub idle_bounds : State → Moments → ℕ
idle_bounds s q = sum_to (λ i. if is_idle s (i + 1) && is_some (bound_of q (i + 1)) then 1 else 0)
    (node_limit s.graph.vertices)

-- how many turns are left at most: a turn after which nothing comes drops the moment of such a
-- node, or looks anew at a vertex
abbrev pub turns_left : Search → EventBounds → ℕ
turns_left s b = stale_ends s b + idle_bounds (state_of s) b.moments
