-- A greatest matching of an instance, the vertices that some such one misses, and what proves both
-- (Gallai, Edmonds; Schrijver, Combinatorial Optimization, volume A, chapter 24).
use Rattle.std.specs.Prelude.{◌≡◌, ℕ, ◌+◌, List, [], ◌∷◌, length, map, All}
use Rattle.std.specs.Prelude.{if◌then◌else◌}
use Rattle.std.specs.List.Sorted.{IsStrictlyIncreasing}
use Rattle.graph_theory.specs.Graph.{IsEdgeNumber}
use Rattle.graph_theory.specs.Parts.{IsVertexSet}
use Rattle.gallai_theory.specs.Matchings.{IsGreatest, IsOuterSet, IsBorder}
use Rattle.gallai_theory.specs.Decomposition.{IsEvenPath, IsDecomposed, unweighted}
use Rattle.mb_problem.specs.Network.{Network, vertices, graph_of, plain_graph}
use Rattle.mb_problem.specs.Size.{is_loop_at}
use Rattle.gadget_base.specs.Blocks.{blocks}
use Rattle.gadget_base.specs.Listed.{times_each}
use Rattle.gallai.specs.declared.found.Decomposition.{Decomposition}

-- paths, each from its vertex, along a matching in turn to a vertex that the matching misses
abbrev pub AreEvenPaths : Network → List ℕ → List (ℕ × List ℕ) → Type 0
AreEvenPaths i counts paths = All (λ p. IsEvenPath (graph_of i) counts p.0 p.1) paths

-- Edges have the numbers of the instance, whose graph may have loops. `d` has the vertices that
-- some greatest matching misses and `a` their neighbours outside.
pub record IsDecomposition (i : Network) (found : Decomposition) : Type 0 where
  pub ascending : IsStrictlyIncreasing found.matching
  pub numbers : All (IsEdgeNumber (graph_of i)) found.matching
  pub greatest : IsGreatest (graph_of i) (times_each (graph_of i) found.matching)
  pub outer_set : IsVertexSet (vertices i) found.d
  pub outer : IsOuterSet (graph_of i) found.d
  pub border_set : IsVertexSet (vertices i) found.a
  pub border : IsBorder (graph_of i) found.d found.a
  pub starts : map (λ p. p.0) found.paths ≡ found.d
  pub paths : AreEvenPaths i (times_each (graph_of i) found.matching) found.paths
  pub decomposed : IsDecomposed (unweighted (plain_graph i)) (length found.matching) found.d
      found.a

-- the numbers in an instance of its edges that are no loops, in order
abbrev pub link_numbers : Network → List ℕ
link_numbers i = blocks (λ k. if is_loop_at i k then [] else (k + 1) ∷ []) (length i.edges)

-- a path for each of these vertices, in order, by the numbers of an instance
pub record ArePathsFrom (i : Network) (counts starts : List ℕ) (paths : List (ℕ × List ℕ))
    : Type 0 where
  pub starts_are : map (λ p. p.0) paths ≡ starts
  pub each : AreEvenPaths i counts paths
