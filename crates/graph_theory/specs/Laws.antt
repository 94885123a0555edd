-- The theorems that certificates rest on, as facts about all graphs.
use Rattle.std.specs.Prelude.{◌≡◌, ℕ, ◌+◌, ◌≤◌, ◌%◌, ℤ, pos, ◌+ℤ◌, ◌*ℤ◌, ◌≤ℤ◌, Bool, true, ◌↔◌}
use Rattle.std.specs.Prelude.{List, length, All, slice_index}
use Rattle.graph_theory.specs.Sums.{int_sum_to}
use Rattle.graph_theory.specs.Graph.{Multigraph, IsGraph, IsEdgeWithin, edge_at, IsEdgeNumber}
use Rattle.graph_theory.specs.Graph.{degree, weight, IsPerfect}
use Rattle.graph_theory.specs.Parts.{holds, IsOddPart, IsSplitPart}
use Rattle.graph_theory.specs.Walk.{IsWalk}
use Rattle.graph_theory.specs.Duals.{DualSet, AreDuals, dual_value}
use Rattle.graph_theory.specs.Barrier.{IsBarrier}

-- the handshake lemma: over the edges, at both of their ends, or over the vertices, as often as
-- their degrees say
abbrev pub Handshake : Type 0
Handshake = (g : Multigraph) (counts : List ℕ) (f : ℕ → ℤ) → All (IsEdgeWithin g.vertices) g.edges
    → int_sum_to (λ k. pos (slice_index counts k) *ℤ (f (edge_at g k).u +ℤ f (edge_at g k).v))
    (length g.edges) ≡ int_sum_to (λ i. pos (degree g counts (i + 1)) *ℤ f (i + 1)) g.vertices

-- weak duality (chapters 25 and 26): twice the weight of a perfect matching is at least the value
-- of feasible duals
abbrev pub WeakDuality : Type 0
WeakDuality = (g : Multigraph) (y : List ℤ) (sets : List DualSet) (counts : List ℕ) → IsGraph g
    → AreDuals g y sets → IsPerfect g counts → dual_value y sets ≤ℤ (pos 2 *ℤ weight g counts)

-- the easy direction of Tutte's theorem (chapter 24): a graph with a barrier has no perfect
-- matching
abbrev pub BarrierExcludes : Type 0
BarrierExcludes = (g : Multigraph) (removed counts : List ℕ) → IsGraph g → IsBarrier g removed
    → IsPerfect g counts → ⊥

-- a set that no edge leaves and that holds an odd number of the vertices of T excludes T-joins
-- (chapter 29)
abbrev pub OddPartExcludes : Type 0
OddPartExcludes = (g : Multigraph) (terminal : ℕ → Bool) (set counts : List ℕ) → IsGraph g
    → IsOddPart g terminal set → ((v : ℕ) → 1 ≤ v → v ≤ g.vertices → (degree g counts v % 2 ≡ 1)
    ↔ (terminal v ≡ true)) → ⊥

-- a set that no edge leaves, with edges inside and outside, excludes walks that use all edges
abbrev pub SplitPartExcludes : Type 0
SplitPartExcludes = (g : Multigraph) (set : List ℕ) (v : ℕ) (es : List ℕ) → IsSplitPart g set
    → IsWalk g v es → ((e : ℕ) → IsEdgeNumber g e → holds es e ≡ true) → ⊥
