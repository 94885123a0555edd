-- Sets of vertices, and those that no edge leaves (chapter 29).
use Rattle.std.specs.Prelude.{◌≡◌, ℕ, ◌≤◌, ◌<◌, ◌%◌, Bool, true, false, not, ◌==◌, List, length}
use Rattle.std.specs.Prelude.{All, count_by, if◌then◌else◌}
use Rattle.std.specs.List.{list_any}
use Rattle.std.specs.List.Sorted.{IsStrictlyIncreasing}
use Rattle.graph_theory.specs.declared.edge.Edge.{Edge}
use Rattle.graph_theory.specs.Graph.{Multigraph, edge_at}

-- v is a member
abbrev pub holds : List ℕ → ℕ → Bool
holds set v = list_any (λ m. m == v) set

-- exactly one end of e is a member
abbrev pub crosses : List ℕ → Edge → Bool
crosses set e = if holds set e.u then not (holds set e.v) else holds set e.v

-- a set of vertices 1 to n, given as an ascending list
pub record IsVertexSet (n : ℕ) (set : List ℕ) : Type 0 where
  pub ascending : IsStrictlyIncreasing set
  pub in_range : All (λ v. (1 ≤ v) × (v ≤ n)) set

-- no edge has exactly one end in the set
abbrev pub LeavesNone : Multigraph → List ℕ → Type 0
LeavesNone g set = All (λ e. crosses set e ≡ false) g.edges

-- an odd part: no edge leaves the set, and it holds an odd number of the vertices of T
pub record IsOddPart (g : Multigraph) (terminal : ℕ → Bool) (set : List ℕ) : Type 0 where
  pub vertices : IsVertexSet g.vertices set
  pub closed : LeavesNone g set
  pub odd : count_by terminal set % 2 ≡ 1

-- a split part: no edge leaves the set, some edge lies inside it and some edge outside
pub record IsSplitPart (g : Multigraph) (set : List ℕ) : Type 0 where
  pub vertices : IsVertexSet g.vertices set
  pub closed : LeavesNone g set
  pub inside : (k : ℕ) × (k < length g.edges) × (holds set (edge_at g k).u ≡ true)
  pub outside : (k : ℕ) × (k < length g.edges) × (holds set (edge_at g k).u ≡ false)
