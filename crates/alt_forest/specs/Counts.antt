-- Counts of a state that steps of a search keep or lower (chapters 24 and 26).
use Rattle.std.specs.Prelude.{◌≢◌, ℕ, ◌+◌, Bool, not, ◌&&◌, if◌then◌else◌, List, [], ◌∷◌, is_some}
use Rattle.std.specs.List.{list_any}
use Rattle.graph_theory.specs.Sums.{sum_to}
use Rattle.blossom_arena.specs.Family.{Blossom, is_outermost, outermost}
use Rattle.blossom_arena.specs.declared.label.Label.TheVariants.{Outer, Out}
use Rattle.alt_forest.specs.State.{State, IsExposed}
use Rattle.alt_forest.specs.Trees.{is_label, node_limit}

abbrev pub is_exposed : State → ℕ → Bool
is_exposed s a = is_outermost s.graph.vertices s.blossoms a && not (is_some (s.mate a))

-- how many outermost nodes are exposed
abbrev pub exposed_count : State → ℕ
exposed_count s = sum_to (λ i. if is_exposed s (i + 1) then 1 else 0) (node_limit s.graph.vertices)

-- each outermost node has a mate
abbrev pub IsMatched : State → Type 0
IsMatched s = (a : ℕ) → IsExposed s a → ⊥

-- a root: outermost, outer and exposed
abbrev pub is_root : State → ℕ → Bool
is_root s a = is_outermost s.graph.vertices s.blossoms a
    && (is_label (s.label a) Outer && not (is_some (s.mate a)))

-- how many trees there are: as many as roots
abbrev pub tree_count : State → ℕ
tree_count s = sum_to (λ i. if is_root s (i + 1) then 1 else 0) (node_limit s.graph.vertices)

-- no exposed node is labelled out: each is the root of a tree
abbrev pub IsPlanted : State → Type 0
IsPlanted s = (a : ℕ) → IsExposed s a → s.label a ≢ Out

-- vertex v lies in no outer node
abbrev pub is_outside : State → ℕ → Bool
is_outside s v = not (is_label (s.label (outermost s.blossoms v)) Outer)

-- how many vertices lie in no outer node
abbrev pub outside_vertices : State → ℕ
outside_vertices s = sum_to (λ i. if is_outside s (i + 1) then 1 else 0) s.graph.vertices

-- how many of these blossoms neither are an outer node nor lie in one
abbrev pub outside_among : State → List Blossom → ℕ
outside_among s [] = 0
outside_among s (b ∷ older) = (if list_any (is_outside s) b.members then 1 else 0)
    + outside_among s older

-- what is left to be taken into outer nodes: the vertices in none of them, and the blossoms that
-- neither are one nor lie in one. Each step that changes a tree lowers it.
abbrev pub measure : State → ℕ
measure s = outside_vertices s + outside_among s s.blossoms
