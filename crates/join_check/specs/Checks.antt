-- What the passes of a check find and compute, list by list.
use Rattle.std.specs.Prelude.{◌≡◌, ◌≢◌, ℕ, ◌+◌, ◌-◌, ◌%◌, ◌<◌, ◌≤◌, ℤ, pos, ◌+ℤ◌, ◌-ℤ◌, ◌*ℤ◌}
use Rattle.std.specs.Prelude.{◌≤ℤ◌, Bool, true, false, ◌&&◌, ◌==◌, nat_lt, nat_le, List, length}
use Rattle.std.specs.Prelude.{slice_index, slice_index_or, if◌then◌else◌}
use Rattle.graph_theory.specs.Sums.{sum_to, int_sum_to}
use Rattle.graph_theory.specs.declared.edge.Edge.{Edge}
use Rattle.graph_theory.specs.Graph.{edge_at}
use Rattle.mb_problem.specs.Network.{Network, vertices, graph_of}
use Rattle.join_check.specs.declared.levels.Levels.{Levels}
use Rattle.join_check.specs.declared.lengths.TheConstants.{LENGTH_LIMIT}
use Rattle.join_check.specs.Forests.{magnitude, meet_at, turned_odd}

-- the item at a place of a list of integers
abbrev pub at : List ℤ → ℕ → ℤ
at xs k = slice_index_or xs k (pos 0)

-- the first length is 0, none is negative, and all together stay within the limit
pub record AreLengths (lengths : List ℤ) : Type 0 where
  pub outside : at lengths 0 ≡ pos 0
  pub from_zero : (b : ℕ) → b < length lengths → pos 0 ≤ℤ at lengths b
  pub value_limit : int_sum_to (at lengths) (length lengths) ≤ℤ LENGTH_LIMIT

-- the first n nodes stand in postorder
pub record ArePostorder (befores : List ℕ) (n : ℕ) : Type 0 where
  pub earlier : (x : ℕ) → 1 ≤ x → x < n → slice_index befores x < x
  pub nested : (x y : ℕ) → x < y → y < n → slice_index befores y < x
      → slice_index befores y ≤ slice_index befores x

-- node b holds node x
abbrev pub held_by : List ℕ → ℕ → ℕ → Bool
held_by befores b x = nat_lt (slice_index befores b) x && nat_le x b

-- the lengths of the nodes that begin after so many others, added up
abbrev pub started : List ℤ → List ℕ → ℕ → ℤ
started lengths befores x = int_sum_to (λ b. if slice_index befores b == x then at lengths b
    else pos 0) (length lengths)

-- the lengths of the nodes that hold node x, added up
abbrev pub topped : List ℤ → List ℕ → ℕ → ℤ
topped lengths befores x = int_sum_to (λ b. if held_by befores b x then at lengths b else pos 0)
    (length lengths)

-- a number from 0 to the limit of lengths
abbrev pub IsLength : ℤ → Type 0
IsLength z = (pos 0 ≤ℤ z) × (z ≤ℤ LENGTH_LIMIT)

pub record AreStarts (lengths : List ℤ) (befores : List ℕ) (starts : List ℤ) : Type 0 where
  pub one_each : length starts ≡ length lengths
  pub each : (x : ℕ) → x < length lengths → at starts x ≡ started lengths befores x

pub record AreTops (lengths : List ℤ) (befores : List ℕ) (tops : List ℤ) : Type 0 where
  pub one_each : length tops ≡ length lengths
  pub each : (x : ℕ) → x < length lengths → at tops x ≡ topped lengths befores x
  pub value_limit : (x : ℕ) → x < length lengths → IsLength (at tops x)

-- a place within a node, at its top if the vertex is odd
pub record HasPlace (lengths : List ℤ) (node : ℕ) (height : ℤ) (odd : Bool) : Type 0 where
  pub inside : node < length lengths
  pub low : pos 0 ≤ℤ height
  pub high : height ≤ℤ at lengths node
  pub tops : odd ≡ true → height ≡ at lengths node

-- for each vertex whether it is odd after the turn
pub record AreFlags (i : Network) (odd : ℕ → ℕ) (flags : List Bool) : Type 0 where
  pub one_each : length flags ≡ vertices i
  pub each : (j : ℕ) → j < vertices i → slice_index_or flags j false
      ≡ (turned_odd i odd (j + 1) == 1)

-- how many odd vertices have node x, and how many have one before it
abbrev pub held_at : List Bool → List ℕ → ℕ → ℕ → ℕ
held_at flags nodes x n = sum_to (λ j. if slice_index_or flags j false && (slice_index nodes j == x)
    then 1 else 0) n

abbrev pub held_before : List Bool → List ℕ → ℕ → ℕ → ℕ
held_before flags nodes x n = sum_to (λ j. if slice_index_or flags j false
    && nat_lt (slice_index nodes j) x then 1 else 0) n

-- for each node how many odd vertices have it or one before it
pub record AreHeld (flags : List Bool) (nodes : List ℕ) (count : ℕ) (held : List ℕ) : Type 0 where
  pub one_each : length held ≡ count
  pub each : (x : ℕ) → x < count → slice_index held x
      ≡ held_before flags nodes (x + 1) (length nodes)

-- how many odd vertices node b holds
abbrev pub held_in : List Bool → List ℕ → List ℕ → ℕ → ℕ
held_in flags befores nodes b = sum_to (λ j. if slice_index_or flags j false
    && held_by befores b (slice_index nodes j) then 1 else 0) (length nodes)

-- each node that has a length holds an odd number of odd vertices
abbrev pub HoldOdd : List ℤ → List ℕ → List ℕ → List Bool → Type 0
HoldOdd lengths befores nodes flags = (b : ℕ) → b < length lengths → at lengths b ≢ pos 0
    → held_in flags befores nodes b % 2 ≡ 1

-- how much length lies below the place of each vertex
pub record AreDepths (lengths tops : List ℤ) (nodes : List ℕ) (heights depths : List ℤ)
    : Type 0 where
  pub one_each : length depths ≡ length nodes
  pub each : (j : ℕ) → j < length nodes → at depths j ≡ at tops (slice_index nodes j)
      -ℤ at lengths (slice_index nodes j) +ℤ at heights j
  pub value_limit : (j : ℕ) → j < length nodes → IsLength (at depths j)

-- an edge is at least as long as the way between the places of its ends
pub record IsWideBy (tops : List ℤ) (befores nodes : List ℕ) (depths : List ℤ) (e : Edge) (a : ℕ)
    : Type 0 where
  pub node : a < length tops
  pub held : a ≢ 0 → (held_by befores a (slice_index nodes (e.u - 1)) ≡ true)
      × (held_by befores a (slice_index nodes (e.v - 1)) ≡ true)
  pub apart : (at depths (e.u - 1) +ℤ at depths (e.v - 1))
      ≤ℤ (pos 2 *ℤ at tops a +ℤ pos 2 *ℤ magnitude e.w)
  pub up : at depths (e.u - 1) ≤ℤ (at depths (e.v - 1) +ℤ pos 2 *ℤ magnitude e.w)
  pub down : at depths (e.v - 1) ≤ℤ (at depths (e.u - 1) +ℤ pos 2 *ℤ magnitude e.w)

-- each list has one item for each vertex or edge
pub record HasShape (i : Network) (f : Levels) : Type 0 where
  pub nodes : length f.nodes ≡ vertices i
  pub heights : length f.heights ≡ vertices i
  pub meets : length f.meets ≡ length i.edges

-- nodes in postorder, whose lengths stay within the limit
pub record IsSmallForest (f : Levels) : Type 0 where
  pub one_each : length f.befores ≡ length f.lengths
  pub lengths : AreLengths f.lengths
  pub postorder : ArePostorder f.befores (length f.befores)

-- each vertex has its place, and nodes that have a length hold odd numbers of odd vertices
pub record ArePlaced (f : Levels) (flags : List Bool) : Type 0 where
  pub places : (j : ℕ) → j < length f.nodes → HasPlace f.lengths (slice_index f.nodes j)
      (at f.heights j) (slice_index_or flags j false)
  pub odd : HoldOdd f.lengths f.befores f.nodes flags

-- each edge is at least as long as the way between the places of its ends, by the tops of the nodes
-- and the depths of the places
pub record AreWide (i : Network) (f : Levels) : Type 0 where
  pub tops : List ℤ
  pub depths : List ℤ
  pub are_tops : AreTops f.lengths f.befores tops
  pub are_depths : AreDepths f.lengths tops f.nodes f.heights depths
  pub wide : (k : ℕ) → k < length i.edges → IsWideBy tops f.befores f.nodes depths
      (edge_at (graph_of i) k) (meet_at f k)
