-- A forest of lengths and a place in it for each vertex. The levels of its nodes are odd cuts: each
-- edge lies in at most twice as many as it weighs, so a join weighs at least half of all lengths
-- (chapter 29).
use Rattle.std.specs.Prelude.{◌≡◌, ◌≢◌, ℕ, ◌+◌, ◌-◌, ◌%◌, ◌<◌, ◌≤◌, ℤ, pos, neg_ℤ, ◌+ℤ◌, ◌*ℤ◌}
use Rattle.std.specs.Prelude.{◌≤ℤ◌, Bool, true, ◌&&◌, ◌==◌, int_lt, nat_lt, nat_le, List, length}
use Rattle.std.specs.Prelude.{slice_index, slice_index_or, if◌then◌else◌}
use Rattle.graph_theory.specs.Sums.{sum_to, int_sum_to}
use Rattle.graph_theory.specs.declared.edge.Edge.{Edge}
use Rattle.graph_theory.specs.Graph.{edge_at, ends_at}
use Rattle.graph_theory.specs.Walk.{walk_weight}
use Rattle.mb_problem.specs.declared.answer.Parity.{Parity}
use Rattle.mb_problem.specs.Network.{Network, graph_of, vertices}
use Rattle.mb_problem.specs.Size.{odd_at}
use Rattle.mb_problem.specs.Joins.{ListsJoin}
use Rattle.join_check.specs.declared.levels.Levels.{Levels}

-- how many nodes there are, with the outside
abbrev pub node_count : Levels → ℕ
node_count f = length f.lengths

-- the length of node b
abbrev pub length_of : Levels → ℕ → ℤ
length_of f b = slice_index_or f.lengths b (pos 0)

-- how many nodes stand before the first that node b holds
abbrev pub before_of : Levels → ℕ → ℕ
before_of f b = slice_index f.befores b

-- the node of the place of vertex v
abbrev pub node_of : Levels → ℕ → ℕ
node_of f v = slice_index f.nodes (v - 1)

-- how much of that node's length lies below the place of vertex v
abbrev pub height_of : Levels → ℕ → ℤ
height_of f v = slice_index_or f.heights (v - 1) (pos 0)

-- the node that is given for the edge at a place
abbrev pub meet_at : Levels → ℕ → ℕ
meet_at f k = slice_index f.meets k

-- node b holds node x, which may be b itself; the outside holds none, and none holds it
abbrev pub holds_node : Levels → ℕ → ℕ → Bool
holds_node f b x = nat_lt (before_of f b) x && nat_le x b

-- how much of the length of node b lies below the place of vertex v
abbrev pub below_at : Levels → ℕ → ℕ → ℤ
below_at f v b = if node_of f v == b then height_of f v else
    (if holds_node f b (node_of f v) then length_of f b else pos 0)

-- all length that lies below the place of vertex v
abbrev pub depth : Levels → ℕ → ℤ
depth f v = int_sum_to (below_at f v) (node_count f)

-- the lengths of the nodes that hold node x, added up
abbrev pub top_of : Levels → ℕ → ℤ
top_of f x = int_sum_to (λ b. if holds_node f b x then length_of f b else pos 0) (node_count f)

-- the edge at a place has a negative weight: it is turned round, so that its weight is positive and
-- its ends change their parity
abbrev pub is_turned : Network → ℕ → Bool
is_turned i k = int_lt (edge_at (graph_of i) k).w (pos 0)

-- how many ends of edges that are turned round are vertex v
abbrev pub turned_ends : Network → ℕ → ℕ
turned_ends i v = sum_to (λ k. if is_turned i k then ends_at (edge_at (graph_of i) k) v else 0)
    (length i.edges)

-- 1 where a join has odd degree after the turn, else 0
abbrev pub turned_odd : Network → (ℕ → ℕ) → ℕ → ℕ
turned_odd i odd v = (odd v + turned_ends i v) % 2

-- the weights of the edges that are turned round, added up
abbrev pub turned_weight : Network → ℤ
turned_weight i = int_sum_to (λ k. if is_turned i k then (edge_at (graph_of i) k).w else pos 0)
    (length i.edges)

-- how many vertices of odd degree node b holds, after the turn
abbrev pub odd_held : Network → (ℕ → ℕ) → Levels → ℕ → ℕ
odd_held i odd f b = sum_to (λ j. if (turned_odd i odd (j + 1) == 1)
    && holds_node f b (node_of f (j + 1)) then 1 else 0) (vertices i)

-- a weight without its sign
abbrev pub magnitude : ℤ → ℤ
magnitude w = if int_lt w (pos 0) then neg_ℤ w else w

-- nodes in postorder with lengths from 0: what a node holds ends with itself, and of two nodes one
-- holds the other or they hold none in common
pub record IsForest (f : Levels) : Type 0 where
  pub outside : length_of f 0 ≡ pos 0
  pub from_zero : (b : ℕ) → b < node_count f → pos 0 ≤ℤ length_of f b
  pub earlier : (x : ℕ) → 1 ≤ x → x < node_count f → before_of f x < x
  pub nested : (x y : ℕ) → x < y → y < node_count f → before_of f y < x
      → before_of f y ≤ before_of f x

-- vertex v has a place in the forest, at the top of its node if it is odd after the turn
pub record IsPlaced (i : Network) (odd : ℕ → ℕ) (f : Levels) (v : ℕ) : Type 0 where
  pub node : node_of f v < node_count f
  pub low : pos 0 ≤ℤ height_of f v
  pub high : height_of f v ≤ℤ length_of f (node_of f v)
  pub tops : turned_odd i odd v ≡ 1 → height_of f v ≡ length_of f (node_of f v)

-- an edge of this weight is at least as long as the way between the places of its ends, that over
-- the top of node a if neither lies below the other
pub record IsWide (f : Levels) (e : Edge) (a : ℕ) : Type 0 where
  pub node : a < node_count f
  pub held : a ≢ 0
      → (holds_node f a (node_of f e.u) ≡ true) × (holds_node f a (node_of f e.v) ≡ true)
  pub apart : (depth f e.u +ℤ depth f e.v)
      ≤ℤ (pos 2 *ℤ top_of f a +ℤ pos 2 *ℤ magnitude e.w)
  pub up : depth f e.u ≤ℤ (depth f e.v +ℤ pos 2 *ℤ magnitude e.w)
  pub down : depth f e.v ≤ℤ (depth f e.u +ℤ pos 2 *ℤ magnitude e.w)

-- the lengths, and the weights of turned edges twice, add up to twice the weight of the join
abbrev pub IsPaid : Network → List ℕ → Levels → Type 0
IsPaid i edges f = int_sum_to (length_of f) (node_count f) +ℤ pos 2 *ℤ turned_weight i
    ≡ pos 2 *ℤ walk_weight (graph_of i) edges

-- a join of this parity, and a forest that proves that none weighs less
pub record ProvesJoin (parity : Parity) (i : Network) (edges : List ℕ) (f : Levels) : Type 0 where
  pub join : ListsJoin i (odd_at parity i) edges
  pub forest : IsForest f
  pub placed : (v : ℕ) → 1 ≤ v → v ≤ vertices i → IsPlaced i (odd_at parity i) f v
  pub odd : (b : ℕ) → b < node_count f → length_of f b ≢ pos 0
      → odd_held i (odd_at parity i) f b % 2 ≡ 1
  pub wide : (k : ℕ) → k < length i.edges → IsWide f (edge_at (graph_of i) k) (meet_at f k)
  pub paid : IsPaid i edges f
