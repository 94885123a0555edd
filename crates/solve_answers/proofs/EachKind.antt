-- What holds of a kind by its traits.
use Rattle.certificates.proofs.Common.{◌≡◌, ℕ, ◌-◌, ◌<◌, ◌≤◌, min, length, subst, arith, get_or_default, IsEdgeWithin, Kind, EdgeUse, Answer, Counts, Walk, Nothing}
use Rattle.certificates.proofs.Common.{edge_use_of, Network, IsNetwork, vertices, value_of, high_of, plain, instance_edge_at, IsFeasible, most_by, edge-ends, feasible-counts}
use Rattle.certificates.proofs.Common.{feasible-most, bounded-small as bounded-most}
use Rattle.document_lines.specs.Lines.{HasSmallCounts}
use Rattle.mb_problem.specs.declared.kind.EdgeUse.TheVariants as use_of

-- how often an edge is used

value-small : (i : Network) (k : ℕ) → IsNetwork i → k < length i.edges → value_of i (instance_edge_at i k).u ≤ 4096
value-small i k network below =
    let within : IsEdgeWithin (vertices i) (plain (instance_edge_at i k)) = edge-ends i k network below in
    let low : 1 ≤ (instance_edge_at i k).u = within.u_low in
    let high : (instance_edge_at i k).u ≤ vertices i = within.u_high in
    network.values ((instance_edge_at i k).u - 1) 0 (omega arith)

high-small : (i : Network) (k : ℕ) → IsNetwork i → k < length i.edges → high_of i (instance_edge_at i k).u ≤ 4096
high-small i k network below =
    let within : IsEdgeWithin (vertices i) (plain (instance_edge_at i k)) = edge-ends i k network below in
    let low : 1 ≤ (instance_edge_at i k).u = within.u_low in
    let high : (instance_edge_at i k).u ≤ vertices i = within.u_high in
    network.highs ((instance_edge_at i k).u - 1) 0 (omega (arith, low, high, network.high_each))

most-small : (often : EdgeUse) (i : Network) (k : ℕ) → IsNetwork i → k < length i.edges → most_by often i (instance_edge_at i k) ≤ 4096
most-small use_of.Once i k network below = omega arith
most-small use_of.AnyNumber i k network below = omega (arith, value-small i k network below)
most-small use_of.WithinCapacity i k network below =
    let e = instance_edge_at i k in
    omega (arith, bounded-most e.capacity (min (value_of i e.u) (value_of i e.v)), value-small i k network below)
most-small use_of.WithinBounds i k network below =
    let e = instance_edge_at i k in
    omega (arith, bounded-most e.capacity (min (high_of i e.u) (high_of i e.v)), high-small i k network below)

pub small : (kind : Kind) (i : Network) (answer : Answer) → IsNetwork i → IsFeasible kind i answer → HasSmallCounts answer
small kind i (Counts counts) network f = λ k d below.
    (let size : length counts ≡ length i.edges = feasible-counts kind i counts f in
    let here : k < length i.edges = omega arith in
    let most = feasible-most kind i counts network f k here in
    subst (λ (c : ℕ). c ≤ 4096) (get_or_default counts k 0 d below) (omega (arith, most, most-small (edge_use_of kind) i k network here)))
small kind i (Walk start edges) network f = tt
small kind i Nothing network f = tt

-- searches
