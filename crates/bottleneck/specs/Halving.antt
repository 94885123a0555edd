-- Halving over the different weights of the edges of a graph. No public clause cites this module.
use Rattle.std.specs.Prelude.{◌≡◌, ℕ, ◌+◌, ◌-◌, ◌<◌, ◌≤◌, ℤ, pos, ◌≤ℤ◌, int_lt}
use Rattle.std.specs.Prelude.{nat_lt, true, List, length, map, All, slice_index, slice_index_or}
use Rattle.std.specs.Prelude.{if◌then◌else◌}
use Rattle.std.specs.List.{AllPairs, Contains}
use Rattle.graph_theory.specs.declared.edge.Edge.{Edge}
use Rattle.graph_theory.specs.Graph.{Multigraph, IsEdgeNumber, edge_at, edge_of, touches}
use Rattle.graph_theory.specs.Parts.{holds, IsVertexSet}
use Rattle.graph_theory.specs.Barrier.{IsBarrier}
use Rattle.gadget_base.specs.Certified.{IsPerfectList}
use Rattle.gadget_base.specs.Lighter.{lighter_than}
use Rattle.bottleneck.specs.declared.found.Bottleneck.{Bottleneck}
use Rattle.bottleneck.specs.declared.found.Bottleneck.TheVariants.{Best, Unmatched}
use Rattle.bottleneck.specs.declared.range.Range.{Range}
use Rattle.bottleneck.specs.declared.range.Found.{Found}
use Rattle.bottleneck.specs.declared.range.Found.TheVariants.{Matching, Barrier}

-- the edge of a number, with its weight read as 0
abbrev pub weightless : Multigraph → ℕ → Edge
weightless g e = record { u = (edge_of g e).u; v = (edge_of g e).v; w = pos 0 }

-- the same vertices, and the edges of these numbers with each weight read as 0
abbrev pub chosen : Multigraph → List ℕ → Multigraph
chosen g numbers = record { vertices = g.vertices; edges = map (weightless g) numbers }

-- the numbers in g of edges that are given by their numbers there
abbrev pub numbers_in : List ℕ → List ℕ → List ℕ
numbers_in numbers = map (λ e. slice_index numbers (e - 1))

-- the numbers of those of the first k edges that weigh at most w
pub record AreLight (g : Multigraph) (w : ℤ) (k : ℕ) (numbers : List ℕ) : Type 0 where
  pub size_limit : length numbers ≤ k
  pub each : All (λ e. IsEdgeNumber g e × ((edge_of g e).w ≤ℤ w)) numbers
  pub whole : (e : ℕ) → 1 ≤ e → e ≤ k → (edge_of g e).w ≤ℤ w → holds numbers e ≡ true

-- the different weights of the edges, ascending
pub record AreWeights (g : Multigraph) (weights : List ℤ) : Type 0 where
  pub size_limit : length weights ≤ length g.edges
  pub ascending : AllPairs (λ a b. int_lt a b ≡ true) weights
  pub whole : (e : ℕ) → IsEdgeNumber g e → Contains weights (edge_of g e).w

-- the weight at a place
abbrev pub weight_at : List ℤ → ℕ → ℤ
weight_at weights place = slice_index_or weights place (pos 0)

-- the first k edges weigh no less than what stands at their ends
abbrev pub AreLeast : Multigraph → ℕ → List ℤ → Type 0
AreLeast g k least = (j : ℕ) → j < k → (weight_at least (edge_at g j).u ≤ℤ (edge_at g j).w)
    × (weight_at least (edge_at g j).v ≤ℤ (edge_at g j).w)

-- the edges at a vertex weigh no less than this
abbrev pub IsLeastAt : Multigraph → ℕ → ℤ → Type 0
IsLeastAt g v bound = (e : ℕ) → IsEdgeNumber g e → touches (edge_of g e) v ≡ true
    → bound ≤ℤ (edge_of g e).w

-- a place before which all weights are below a bound that the edges at some vertex keep
pub record IsStart (g : Multigraph) (weights : List ℤ) (place : ℕ) : Type 0 where
  pub size_limit : place ≤ length weights
  pub vertex : ℕ
  pub low : 1 ≤ vertex
  pub high : vertex ≤ g.vertices
  pub bound : ℤ
  pub least : IsLeastAt g vertex bound
  pub below : (p : ℕ) → p < place → int_lt (weight_at weights p) bound ≡ true

-- a barrier of the graph of all edges that are lighter than the weight at this place, and at the
-- end of the graph itself
pub record BarsBelow (g : Multigraph) (weights : List ℤ) (place : ℕ) (set : List ℕ) : Type 0 where
  pub vertex_set : IsVertexSet g.vertices set
  pub lighter : place < length weights → IsBarrier (lighter_than (weight_at weights place) g) set
  pub whole : place ≡ length weights → IsBarrier g set

-- a perfect matching whose edges weigh at most as much as the weight at this place
pub record IsUpTo (g : Multigraph) (weights : List ℤ) (place : ℕ) (edges : List ℕ) : Type 0 where
  pub perfect : IsPerfectList g edges
  pub light : All (λ e. (edge_of g e).w ≤ℤ weight_at weights place) edges

-- the least place up to which the edges have a perfect matching lies in this range, or none does
-- where the range goes to the end
pub record IsRange (g : Multigraph) (weights : List ℤ) (r : Range) : Type 0 where
  pub order : r.low ≤ r.high
  pub end : r.high ≤ length weights
  pub bars : BarsBelow g weights r.low r.barrier.items
  pub matched : r.high < length weights → IsUpTo g weights r.high r.matching.items

-- what a search finds in a graph whose edges have these numbers in another one: a perfect matching,
-- by the numbers there, or a barrier
abbrev pub IsFound : Multigraph → List ℕ → Found → Type 0
IsFound part numbers (Matching edges) = (list : List ℕ) × IsPerfectList part list
    × (edges.items ≡ numbers_in numbers list)
IsFound part numbers (Barrier set) = IsVertexSet part.vertices set.items × IsBarrier part set.items

-- a range after what was found for its edges up to a place
abbrev pub narrowed : ℕ → Found → Range → Range
narrowed middle (Matching edges) r = record r { high = middle; matching = edges }
narrowed middle (Barrier set) r = record r { low = middle + 1; barrier = set }

-- such a range after a search among the edges up to a place of another one: it is at most as wide
-- as the parts before that place and after it
pub record IsNarrowed (g : Multigraph) (weights : List ℤ) (place : ℕ) (old new : Range)
    : Type 0 where
  pub range : IsRange g weights new
  pub narrow : (most : ℕ) → place - old.low ≤ most → old.high - (place + 1) ≤ most
      → new.high - new.low ≤ most

-- what a range of one place says
abbrev pub told : List ℤ → Range → Bottleneck
told weights r = if nat_lt r.high (length weights)
    then Best (weight_at weights r.high) r.matching.items r.barrier.items
    else Unmatched r.barrier.items
