-- The matching of the vertices that mates make (chapter 24).
use Rattle.std.specs.Prelude.{◌≡◌, ◌≢◌, ℕ, ◌*◌, Bool, true, false, ◌==◌, if◌then◌else◌, List}
use Rattle.std.specs.Prelude.{length, map, slice_index, Option, Some, None}
use Rattle.std.specs.List.{range_with_len}
use Rattle.graph_theory.specs.Graph.{Multigraph, IsEdgeNumber, edge_of, edge_at, touches, other_end}
use Rattle.graph_theory.specs.Parts.{crosses}
use Rattle.graph_theory.specs.Sums.{sum_to}
use Rattle.blossom_arena.specs.Family.{is_vertex, outermost, members_of}
use Rattle.alt_forest.specs.State.{State, IsOutermost, IsExposed}

abbrev pub is_edge : Option ℕ → ℕ → Bool
is_edge None e = false
is_edge (Some f) e = f == e

-- how often each edge is counted: once if it's the mate of its first end, else not at all
abbrev pub mate_counts : Multigraph → (ℕ → Option ℕ) → List ℕ
mate_counts g mate = map (λ e. if is_edge (mate (edge_of g e).u) e then 1 else 0)
    (range_with_len 1 (length g.edges))

-- a vertex has an edge at it as its mate, and the vertex at the other end has the same one
pub record IsVertexMate (g : Multigraph) (mate : ℕ → Option ℕ) (v : ℕ) : Type 0 where
  pub edge : ℕ
  pub is_edge : IsEdgeNumber g edge
  pub has : mate v ≡ Some edge
  pub at_v : touches (edge_of g edge) v ≡ true
  pub back : mate (other_end (edge_of g edge) v) ≡ Some edge

-- each vertex that has a mate shares it with the vertex at the other end
abbrev pub AreVertexMates : Multigraph → (ℕ → Option ℕ) → Type 0
AreVertexMates g mate = (v e : ℕ) → is_vertex g.vertices v ≡ true → mate v ≡ Some e
    → IsVertexMate g mate v

-- a vertex within a node, which the matching misses
pub record IsMissedIn (s : State) (mate : ℕ → Option ℕ) (a v : ℕ) : Type 0 where
  pub vertex : is_vertex s.graph.vertices v ≡ true
  pub within : outermost s.blossoms v ≡ a
  pub none : mate v ≡ None

-- exactly one vertex of each exposed node is missed, its first, and none of an outermost node with
-- a mate
pub record MissesOneEach (s : State) (mate : ℕ → Option ℕ) : Type 0 where
  pub one : (a : ℕ) → IsExposed s a
      → (v : ℕ) × IsMissedIn s mate a v × ((w : ℕ) → IsMissedIn s mate a w → w ≡ v)
  pub first : (a v : ℕ) → IsExposed s a → IsMissedIn s mate a v
      → slice_index (members_of s.blossoms a) 0 ≡ v
  pub none : (a e v : ℕ) → IsOutermost s a → s.mate a ≡ Some e → IsMissedIn s mate a v → ⊥

-- The new matching misses v. Each other vertex that it misses the old one misses too, and of those
-- that the old one misses it misses all but one, the given.
pub record MissesInstead (n : ℕ) (old new : ℕ → Option ℕ) (v : ℕ) : Type 0 where
  pub free : new v ≡ None
  pub given : ℕ
  pub given_is : is_vertex n given ≡ true
  pub was_free : old given ≡ None
  pub fewer : (w : ℕ) → is_vertex n w ≡ true → w ≢ v → new w ≡ None → old w ≡ None
  pub kept : (w : ℕ) → is_vertex n w ≡ true → w ≢ given → old w ≡ None → new w ≡ None

-- how many counted edges have exactly one end in a set
abbrev pub leaving : Multigraph → List ℕ → List ℕ → ℕ
leaving g counts set = sum_to
    (λ k. slice_index counts k * (if crosses set (edge_at g k) then 1 else 0)) (length g.edges)
