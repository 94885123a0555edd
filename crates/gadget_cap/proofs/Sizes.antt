-- The size of the graph with gates, and what comes before an edge in it.
use Rattle.mb_problem.proofs.Common.{◌≡◌, ℕ, ◌+◌, ◌*◌, ◌<◌, ◌≤◌, Bool, true, false, refl, ◌∙◌, arith, length, sum_to-same, Network, instance_edge_at, size_of}
use Rattle.mb_problem.proofs.Common.{capped_size, value_u, value_v, HasSize, sum_to-grows}
use Rattle.gadget_base.proofs.Common.{blocks, before_gates, gated, capped_graph, gadget_graph, blocks-length}
use Rattle.gadget_cap.specs.Capped.{capped_kind, capped_room, room_at}
use Rattle.gadget_cap.specs.Places.{gate_size}
use Rattle.gadget_cap.proofs.Back.{all-edges}

pub graph-is : (unit : Bool) (i : Network) → gadget_graph (capped_kind unit) i ≡ capped_graph i (capped_room unit i)
graph-is true i = refl
graph-is false i = refl

pub size-is : (unit : Bool) (i : Network) → size_of (capped_kind unit) i ≡ capped_size i (capped_room unit i)
size-is true i = refl
size-is false i = refl

pub room-is : (unit : Bool) (i : Network) (k : ℕ) → room_at unit i (instance_edge_at i k) ≡ capped_room unit i k
room-is true i k = refl
room-is false i k = refl

in_turn : (r u v : ℕ) → u * r + (r * r + r * v) ≡ r * (u + r + v)
in_turn r u v = grind arith

edges-are : (i : Network) (room : ℕ → ℕ) → length (capped_graph i room).edges ≡ (capped_size i room).edges
edges-are i room = all-edges i room ∙ sum_to-same (gate_size i room) (λ k. room k * (value_u i k + room k + value_v i k)) (length i.edges)
    (λ k _. in_turn (room k) (value_u i k) (value_v i k))

pub has_size : (unit : Bool) (i : Network) → HasSize (size_of (capped_kind unit) i) (gadget_graph (capped_kind unit) i)
has_size true i = record { vertices = refl; edges = edges-are i (capped_room true i) }
has_size false i = record { vertices = refl; edges = edges-are i (capped_room false i) }

-- an edge and those before it, among all
pub gates-within : (i : Network) (room : ℕ → ℕ) (k : ℕ) → k < length i.edges → length (blocks (gated i room) k) + length (gated i room k) ≤ (capped_size i room).edges
gates-within i room k b =
    let all : length (blocks (gated i room) (length i.edges)) ≡ (capped_size i room).edges = edges-are i room in
    omega (arith, sum_to-grows (λ j. length (gated i room j)) k (length i.edges) b, blocks-length (gated i room) k, blocks-length (gated i room) (length i.edges), all)

pub room-within : (i : Network) (room : ℕ → ℕ) (k : ℕ) → k < length i.edges → before_gates i room k + 2 * room k ≤ before_gates i room (length i.edges)
room-within i room k b = let grows = sum_to-grows room k (length i.edges) b in omega arith
