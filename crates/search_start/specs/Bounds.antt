-- What keeps every dual of a pass in range (chapter 26): the sum of all duals is at most twice the
-- weight of a perfect matching, so all changes together are bounded.
use Rattle.std.specs.Prelude.{◌≡◌, ◌⊎◌, ℕ, ℤ, pos, ◌+ℤ◌, ◌-ℤ◌, ◌*ℤ◌, ◌≤ℤ◌, true, false, List}
use Rattle.graph_theory.specs.Graph.{Multigraph, IsPerfect, IsWeight}
use Rattle.graph_theory.specs.Parts.{holds}
use Rattle.blossom_arena.specs.Family.{is_node, is_vertex, names_of}
use Rattle.alt_forest.specs.State.{State}
use Rattle.alt_forest.specs.Totals.{dual_total}

-- a graph has a perfect matching
abbrev pub HasPerfect : Multigraph → Type 0
HasPerfect g = (counts : List ℕ) × IsPerfect g counts

-- in the pass without weights each node has the dual 0
pub record HasNoDuals (s : State) : Type 0 where
  pub unweighted : s.weighted ≡ false
  pub zero : (a : ℕ) → is_node s.graph.vertices s.blossoms a ≡ true → s.dual a ≡ pos 0

-- In the pass with weights, on a graph with a perfect matching, the sum of all duals has risen by
-- `raised`, and no dual has moved farther: a change of d raises the sum by d for each tree.
pub record IsRaised (s : State) (start : ℤ) : Type 0 where
  pub weighted : s.weighted ≡ true
  pub perfect : HasPerfect s.graph
  pub start_weight : IsWeight start
  pub raised : ℤ
  pub low : pos 0 ≤ℤ raised
  pub total : dual_total s ≡ (pos s.graph.vertices *ℤ start) +ℤ raised
  pub vertices : (v : ℕ) → is_vertex s.graph.vertices v ≡ true → ((start -ℤ raised) ≤ℤ s.dual v)
      × (s.dual v ≤ℤ (start +ℤ raised))
  pub blossoms : (b : ℕ) → holds (names_of s.blossoms) b ≡ true → s.dual b ≤ℤ raised

abbrev pub IsBounded : State → ℤ → Type 0
IsBounded s start = HasNoDuals s ⊎ IsRaised s start
