-- The w lines of walks.
use Rattle.certificates.proofs.Common.{◌≡◌, ℕ, ◌≤◌, pos, List, length, IfSome, arith, ints, All-map, All-weaker, IsEdgeNumber, IsWalk, walk-numbers, Kind, Answer, Counts, Walk}
use Rattle.certificates.proofs.Common.{Nothing, Network, IsNetwork, vertices, graph_of, IsFeasible, feasible-walk, edges-count, walk-start, IsUpTo, IsWalkWithin}
use Rattle.document_lines.specs.Lines.{line_of, walk_line}

up_to : (n v : ℕ) → 1 ≤ v → v ≤ n → IsUpTo n (pos v)
up_to n v low high = record { low = omega (arith, ints, low); high = omega (arith, ints, high) }

-- a walk of some edge has its numbers in range
pub walk-within : (i : Network) (start : ℕ) (edges : List ℕ) → IsNetwork i → IsWalk (graph_of i) start edges → 1 ≤ length edges →
    IsWalkWithin (vertices i) (length i.edges) (walk_line start edges)
walk-within i start edges network walk some =
    let m = length i.edges in
    let range = walk-start i start edges network walk some in
    let same : length (graph_of i).edges ≡ m = edges-count i in (
      up_to (vertices i) start range.0 range.1,
      All-map (IsUpTo m) pos edges
          (All-weaker (IsEdgeNumber (graph_of i)) (λ e. IsUpTo m (pos e))
          (λ e h. (let low : 1 ≤ e = h.0 in let high : e ≤ length (graph_of i).edges = h.1 in up_to m e low (omega (arith, high, same)))) edges
          (walk-numbers (graph_of i) start edges walk)),
    )

-- the line of a feasible answer
pub line-within : (kind : Kind) (i : Network) (answer : Answer) → IsNetwork i → IsFeasible kind i answer → IfSome (line_of answer) (IsWalkWithin (vertices i) (length i.edges))
line-within kind i (Counts counts) network f = tt
line-within kind i Nothing network f = tt
line-within kind i (Walk start edges) network f = (let w = feasible-walk kind i start edges f in walk-within i start edges network w.0 w.1)
