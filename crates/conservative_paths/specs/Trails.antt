-- A path that grows over the edges that are left of a set, and is cut back where it comes to a
-- vertex again.
use Rattle.std.specs.Prelude.{◌≡◌, ◌≢◌, ℕ, ◌+◌, ◌%◌, ◌≤◌, ◌<◌, pos, ◌+ℤ◌, ◌<ℤ◌, ◌≤ℤ◌, ◌==◌, true}
use Rattle.std.specs.Prelude.{List, [], ◌∷◌, ◌++◌, length, slice_index, slice_set, take, drop}
use Rattle.std.specs.Prelude.{Option, None, Some, if◌then◌else◌}
use Rattle.graph_theory.specs.Graph.{Multigraph, edge_of, IsEdgeNumber, touches, other_end, degree}
use Rattle.graph_theory.specs.Graph.{weight, CountsNoneAt}
use Rattle.graph_theory.specs.Walk.{IsWalk, IsCircuit, walk_end, walk_left, walk_vertices}
use Rattle.graph_theory.specs.Walk.{walk_weight}
use Rattle.weighted_graph.specs.Left.{IsTaken, ArePassed}
use Rattle.gadget_base.specs.Listed.{times}
use Rattle.conservative_paths.specs.declared.edges_left.EdgesLeft.{EdgesLeft}
use Rattle.conservative_paths.specs.declared.trail.Trail.{Trail}

-- one count for each edge, and for each vertex how many of its edges were looked at, none of which
-- is left
pub record IsLeft (g : Multigraph) (l : EdgesLeft) : Type 0 where
  pub one_each : length l.counts.items ≡ length g.edges
  pub looked : ArePassed g l.counts.items l.looked.items

-- an edge at the vertex is taken, and leads there
pub record Takes (g : Multigraph) (v e there : ℕ) (old new : List ℕ) : Type 0 where
  pub number : IsEdgeNumber g e
  pub meets : touches (edge_of g e) v ≡ true
  pub leads : there ≡ other_end (edge_of g e) v
  pub taken : IsTaken e old new

-- a walk over edges that were taken from a set, and what is left of it, with an odd degree exactly
-- at the target and at the end of the walk where these differ
pub record IsWayOver (g : Multigraph) (total left : List ℕ) (base target here : ℕ)
    (way : List ℕ) : Type 0 where
  pub walk : IsWalk g base way
  pub ends : walk_end g base way ≡ here
  pub shared : (k : ℕ) → k < length g.edges
      → times way (k + 1) + slice_index left k ≤ slice_index total k
  pub parity : (v : ℕ) → 1 ≤ v → v ≤ g.vertices
      → (degree g left v + (if target == v then 1 else 0) + (if here == v then 1 else 0)) % 2 ≡ 0

-- such a walk, and for each of the vertices that are listed its place
pub record IsTrail (g : Multigraph) (total left : List ℕ) (base target : ℕ) (t : Trail) : Type 0
  where
    pub way : IsWayOver g total left base target t.here t.edges.items
    pub within : (1 ≤ t.here) × (t.here ≤ g.vertices)
    pub one_each : length t.place.items ≡ g.vertices + 1
    pub places : (i : ℕ) → i < length t.vertices.items
        → slice_index t.place.items (slice_index t.vertices.items i) ≡ i

-- it comes to no vertex twice: all of its vertices are listed
pub record IsOpen (g : Multigraph) (total left : List ℕ) (base target : ℕ) (t : Trail) : Type 0
  where
    pub trail : IsTrail g total left base target t
    pub vertices : t.vertices.items ≡ walk_vertices g base t.edges.items

-- its last edge came back to the vertex at this place
pub record IsClosed (g : Multigraph) (total left : List ℕ) (base target place : ℕ)
    (t : Trail) : Type 0 where
  pub trail : IsTrail g total left base target t
  pub vertices : t.vertices.items ≡ walk_left g base t.edges.items
  pub below : place < length t.vertices.items
  pub back : slice_index t.vertices.items place ≡ t.here

-- a path of this vertex alone begins
pub record Begins (base : ℕ) (old new : Trail) : Type 0 where
  pub here : new.here ≡ base
  pub edges : new.edges.items ≡ []
  pub vertices : new.vertices.items ≡ base ∷ []
  pub table : new.place.items ≡ slice_set old.place.items base 0

-- the path goes on to a vertex that it had not come to
pub record GoesOn (edge there : ℕ) (old new : Trail) : Type 0 where
  pub here : new.here ≡ there
  pub edges : new.edges.items ≡ old.edges.items ++ edge ∷ []
  pub fresh : slice_index old.place.items there < length old.vertices.items
      → slice_index old.vertices.items (slice_index old.place.items there) ≢ there
  pub vertices : new.vertices.items ≡ old.vertices.items ++ there ∷ []
  pub table : new.place.items ≡ slice_set old.place.items there (length old.vertices.items)

-- the path comes to a vertex that stands at this place
pub record ComesBack (edge there place : ℕ) (old new : Trail) : Type 0 where
  pub here : new.here ≡ there
  pub edges : new.edges.items ≡ old.edges.items ++ edge ∷ []
  pub below : place < length old.vertices.items
  pub back : slice_index old.vertices.items place ≡ there
  pub vertices : new.vertices.items ≡ old.vertices.items
  pub table : new.place.items ≡ old.place.items

abbrev pub Follows : ℕ → ℕ → Trail → Trail → Option ℕ → Type 0
Follows edge there old new None = GoesOn edge there old new
Follows edge there old new (Some place) = ComesBack edge there place old new

-- what came after this place is gone
pub record IsCut (place : ℕ) (old new : Trail) : Type 0 where
  pub here : new.here ≡ old.here
  pub edges : new.edges.items ≡ take place old.edges.items
  pub vertices : new.vertices.items ≡ take (place + 1) old.vertices.items
  pub table : new.place.items ≡ old.place.items

-- whatever set it is over, the path stays one where it goes on over an edge that is taken
abbrev pub KeepsOpen : Multigraph → ℕ → ℕ → Trail → Trail → Type 0
KeepsOpen g edge there old new = (total left after : List ℕ) (base target : ℕ)
    → IsOpen g total left base target old → Takes g old.here edge there left after
    → IsOpen g total after base target new

-- it stays one, and what is left and the path weigh no more together
pub record KeepsWeight (g : Multigraph) (edge there : ℕ) (old new : Trail) : Type 0 where
  pub open_path : KeepsOpen g edge there old new
  pub weighs : (left after : List ℕ) → Takes g old.here edge there left after
      → (weight g after +ℤ walk_weight g new.edges.items)
      ≤ℤ (weight g left +ℤ walk_weight g old.edges.items)

-- the last edges, from this place on, are a circuit that weighs less than 0
pub record ClosesBelow (g : Multigraph) (edge there place : ℕ) (old new : Trail) : Type 0 where
  pub closed : (total left after : List ℕ) (base target : ℕ) → IsOpen g total left base target old
      → Takes g old.here edge there left after → IsClosed g total after base target place new
  pub negative : walk_weight g (drop place new.edges.items) <ℤ pos 0

abbrev pub Advances : Multigraph → ℕ → ℕ → Trail → Trail → Option ℕ → Type 0
Advances g edge there old new None = KeepsWeight g edge there old new
Advances g edge there old new (Some place) = ClosesBelow g edge there place old new

-- counts 0 or 1 of even degrees that weigh less than 0
pub record IsNegativeEven (g : Multigraph) (counts : List ℕ) : Type 0 where
  pub value_limit : (k : ℕ) → k < length g.edges → slice_index counts k ≤ 1
  pub even : (v : ℕ) → 1 ≤ v → v ≤ g.vertices → degree g counts v % 2 ≡ 0
  pub negative : weight g counts <ℤ pos 0

-- nothing is left at the vertex, no count has grown, and what is left is of even degrees and weighs
-- less than 0
pub record IsDrained (g : Multigraph) (base : ℕ) (old new : List ℕ) : Type 0 where
  pub even : IsNegativeEven g new
  pub settled : CountsNoneAt g new base
  pub fewer : (k : ℕ) → k < length g.edges → slice_index new k ≤ slice_index old k

-- a circuit over the counts that weighs less than 0
pub record IsNegativeOver (g : Multigraph) (counts : List ℕ) (start : ℕ) (edges : List ℕ) : Type 0
  where
    pub circuit : IsCircuit g start edges
    pub within : (k : ℕ) → k < length g.edges → times edges (k + 1) ≤ slice_index counts k
    pub negative : walk_weight g edges <ℤ pos 0
