-- How many looks the bounds of a search still cost at most, beside those at vertices that come into
-- outer nodes.
use Rattle.std.specs.Prelude.{ℕ, ◌+◌, ℤ, Bool, false, not, ◌&&◌, ◌==◌, int_le, if◌then◌else◌, List}
use Rattle.std.specs.Prelude.{[], ◌∷◌, length, Option, Some, None}
use Rattle.graph_theory.specs.Graph.{edge_of, edges_around, other_end}
use Rattle.graph_theory.specs.Sums.{sum_to}
use Rattle.blossom_arena.specs.Family.{outermost}
use Rattle.blossom_arena.specs.declared.label.Label.TheVariants.{Outer}
use Rattle.alt_forest.specs.declared.search.Search.{Search}
use Rattle.alt_forest.specs.State.{State}
use Rattle.alt_forest.specs.Trees.{is_label}
use Rattle.alt_forest.specs.Searches.{state_of}
use Rattle.search_keys.specs.declared.bounds.EventBounds.{EventBounds}
use Rattle.search_keys.specs.Bounds.{hint_of, key_from, key_of}

-- whether the edge e gives the vertex v a key of at most k still: its other end, far, lies in an
-- outer node, another one
abbrev pub gives_still : State → ℤ → ℕ → ℕ → ℕ → ℤ → Bool
gives_still s clock e far v k =
    not (outermost s.blossoms far == outermost s.blossoms v)
    && (is_label (s.label (outermost s.blossoms far)) Outer
    && int_le (key_from s clock far (edge_of s.graph e).w) k)

-- whether a vertex that has this key has to be looked at anew when it comes up: the edge that gave
-- it doesn't give it any more
abbrev pub is_stale : State → ℤ → ℕ → ℕ → Option ℤ → Bool
is_stale s clock e v None = false
is_stale s clock e v (Some k) = not (gives_still s clock e (other_end (edge_of s.graph e) v) v k)

-- the vertex v has to be looked at anew
abbrev pub is_stale_at : Search → EventBounds → ℕ → Bool
is_stale_at s b v = is_stale (state_of s) s.clock (hint_of b v) v (key_of b v)

-- how many ends of edges there are at the vertices that have to be looked at anew
abbrev pub stale_ends : Search → EventBounds → ℕ
stale_ends s b = sum_to (λ i. if is_stale_at s b (i + 1) then length (edges_around s.graph (i + 1))
    else 0) s.graph.vertices

-- how many ends of edges there are at those of these vertices that lie in outer nodes
abbrev pub ends_outer : State → List ℕ → ℕ
ends_outer s [] = 0
ends_outer s (v ∷ vs) = (if is_label (s.label (outermost s.blossoms v)) Outer
    then length (edges_around s.graph v) else 0) + ends_outer s vs
