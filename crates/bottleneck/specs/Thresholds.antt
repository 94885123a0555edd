-- The least weight up to which edges have a perfect matching (Schrijver, Combinatorial
-- Optimization, volume A, chapter 24).
use Rattle.std.specs.Prelude.{◌≡◌, ◌≢◌, ℕ, ℤ, pos, List, []}
use Rattle.graph_theory.specs.Barrier.{IsBarrier}
use Rattle.graph_theory.specs.Parts.{IsVertexSet}
use Rattle.mb_problem.specs.Heaviest.{heaviest}
use Rattle.mb_problem.specs.Network.{Network, vertices, plain_graph}
use Rattle.gadget_base.specs.Certified.{IsPerfectList}
use Rattle.gadget_base.specs.Lighter.{lighter_than}
use Rattle.gadget_base.specs.Listed.{times_each}
use Rattle.bottleneck.specs.declared.found.Bottleneck.{Bottleneck}
use Rattle.bottleneck.specs.declared.found.Bottleneck.TheVariants.{Best, Unmatched}

-- the heaviest listed edge weighs so much, and the set is a barrier of the graph of lighter edges
pub record IsTight (i : Network) (weight : ℤ) (matching barrier : List ℕ) : Type 0 where
  pub weighs : heaviest (plain_graph i) (times_each (plain_graph i) matching) ≡ weight
  pub vertex_set : IsVertexSet (vertices i) barrier
  pub excludes : IsBarrier (lighter_than weight (plain_graph i)) barrier

-- nothing, if there is no vertex
pub record IsNothing (weight : ℤ) (matching barrier : List ℕ) : Type 0 where
  pub no_weight : weight ≡ pos 0
  pub no_edge : matching ≡ []
  pub no_vertex : barrier ≡ []

-- a perfect matching that minimises the largest edge weight; or a barrier of the graph
abbrev pub IsThreshold : Network → Bottleneck → Type 0
IsThreshold i (Best weight matching barrier) = IsPerfectList (plain_graph i) matching
    × (vertices i ≡ 0 → IsNothing weight matching barrier)
    × (vertices i ≢ 0 → IsTight i weight matching barrier)
IsThreshold i (Unmatched barrier) = IsVertexSet (vertices i) barrier
    × IsBarrier (plain_graph i) barrier
