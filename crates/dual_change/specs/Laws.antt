-- What holds of changes of duals in all states of a search (chapters 24 and 26).
use Rattle.std.specs.Prelude.{◌≡◌, ℕ, ℤ, pos, ◌+ℤ◌, ◌*ℤ◌, true, List}
use Rattle.std.specs.List.{filter, range_with_len}
use Rattle.graph_theory.specs.Graph.{IsGraph, IsEdgeNumber}
use Rattle.graph_theory.specs.Barrier.{IsBarrier}
use Rattle.blossom_arena.specs.Family.{IsNested, is_vertex, outermost}
use Rattle.blossom_arena.specs.declared.label.Label.TheVariants.{Outer, Inner}
use Rattle.alt_forest.specs.State.{State, IsOutermost, Joins, slack_of, IsSearchState}
use Rattle.alt_forest.specs.Trees.{IsRoot, is_label}
use Rattle.alt_forest.specs.Counts.{IsPlanted, tree_count}
use Rattle.alt_forest.specs.Totals.{dual_total}
use Rattle.dual_change.specs.Changes.{IsStuck, applied}

-- the vertices of inner nodes, ascending
abbrev pub inner_vertices : State → List ℕ
inner_vertices s = filter (λ v. is_label (s.label (outermost s.blossoms v)) Inner)
    (range_with_len 1 s.graph.vertices)

-- where the search is stuck, no blossom is inner
abbrev pub StuckInnerAreVertices : Type 0
StuckInnerAreVertices = (s : State) (depth : ℕ → ℕ) (a : ℕ) → IsGraph s.graph
    → IsNested s.graph.vertices s.blossoms → IsSearchState s depth → IsStuck s
    → IsOutermost s a → s.label a ≡ Inner → is_vertex s.graph.vertices a ≡ true

-- where a forest of all exposed nodes is stuck, its inner vertices are a barrier: each outer node
-- is an odd component of what is left without them, and there is one outer node more than inner
-- ones in each tree
abbrev pub StuckHasBarrier : Type 0
StuckHasBarrier = (s : State) (depth : ℕ → ℕ) (root : ℕ) → IsGraph s.graph
    → IsNested s.graph.vertices s.blossoms → IsSearchState s depth → IsPlanted s → IsRoot s root
    → IsStuck s → IsBarrier s.graph (inner_vertices s)

-- the slack between two outer nodes is even, so the change that lets them be shrunk, or the
-- matching be augmented, is an integer
abbrev pub OuterSlackIsEven : Type 0
OuterSlackIsEven = (s : State) (depth : ℕ → ℕ) (e a b : ℕ) → IsGraph s.graph
    → IsNested s.graph.vertices s.blossoms → IsSearchState s depth → IsEdgeNumber s.graph e
    → Joins s.graph s.blossoms e a b
    → s.label a ≡ Outer → s.label b ≡ Outer → (half : ℤ) × (slack_of s e ≡ half +ℤ half)

-- a change raises the sum of all duals once for each tree
abbrev pub ChangeRaisesTotal : Type 0
ChangeRaisesTotal = (s : State) (depth : ℕ → ℕ) (d : ℤ) → IsNested s.graph.vertices s.blossoms
    → IsSearchState s depth
    → dual_total (applied s d) ≡ dual_total s +ℤ (pos (tree_count s) *ℤ d)
