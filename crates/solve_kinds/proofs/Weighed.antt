-- The weights of perfect matchings and of the answers that they stand for are numbers of documents.
use Rattle.certificates.proofs.Common.{◌≡◌, true, ℕ, ◌*◌, ◌<◌, ◌≤◌, ℤ, pos, neg_ℤ, ◌+ℤ◌, ◌*ℤ◌, ◌≤ℤ◌, List, length, slice_index, sym, ◌∙◌}
use Rattle.certificates.proofs.Common.{subst, arith, replicate, ints, get_or-replicate, GRAPH_VERTEX_LIMIT, int_sum_to, Multigraph, IsGraph, IsWeight, IsPerfect, edge_at, no_edge, weight}
use Rattle.certificates.proofs.Common.{walk_weight, IsNumber, int_sum_to-le, times-int_sum_to, times-le, times-two, int_sum_to-within, int_sum_to-constant, edge_at-weight, handshake-perfect}
use Rattle.certificates.proofs.Common.{Kind, DualValue, Twice, Opposite, BesideAll, FourTimes, BestProof, Duals, LighterBarrier, OuterPaths, Answer, proof_of, are_duals, Network, IsNetwork}
use Rattle.certificates.proofs.Common.{graph_of, IsFeasible, weight_of, total_weight, value_by, value_beside, value_for, edges-count, network-graph, gadget_graph, IsReached, ReachesAll}
use Rattle.certificates.proofs.Common.{ListsCounts, list-weight, reached-weighs}

-- with n vertices: no farther from 0 than n times the greatest weight of an edge
abbrev IsSmall : ℕ → ℤ → Type 0
IsSmall n z = (neg_ℤ (pos (n * 1000000000000)) ≤ℤ z) × (z ≤ℤ pos (n * 1000000000000))

share-most : (c : ℕ) (w : ℤ) → IsWeight w → (pos 2 *ℤ (pos c *ℤ w)) ≤ℤ (pos c *ℤ (pos 1000000000000 +ℤ pos 1000000000000))
share-most c w h =
    let high : w ≤ℤ pos 1000000000000 = h.1 in
    let doubled : (pos 2 *ℤ w) ≤ℤ (pos 1000000000000 +ℤ pos 1000000000000) = omega (arith, ints) in
    omega (arith, ints, times-two c w, times-le c (pos 2 *ℤ w) (pos 1000000000000 +ℤ pos 1000000000000) doubled)

share-least : (c : ℕ) (w : ℤ) → IsWeight w → (pos c *ℤ (neg_ℤ (pos 1000000000000) +ℤ neg_ℤ (pos 1000000000000))) ≤ℤ (pos 2 *ℤ (pos c *ℤ w))
share-least c w h =
    let low : neg_ℤ (pos 1000000000000) ≤ℤ w = h.0 in
    let doubled : (neg_ℤ (pos 1000000000000) +ℤ neg_ℤ (pos 1000000000000)) ≤ℤ (pos 2 *ℤ w) = omega (arith, ints) in
    omega (arith, ints, times-two c w, times-le c (neg_ℤ (pos 1000000000000) +ℤ neg_ℤ (pos 1000000000000)) (pos 2 *ℤ w) doubled)

-- both ends of each counted edge give the same, and each vertex once
shared : (g : Multigraph) (counts : List ℕ) (b : ℤ) → IsGraph g → IsPerfect g counts → int_sum_to (λ k. pos (slice_index counts k) *ℤ (b +ℤ b)) (length g.edges)
    ≡ pos g.vertices *ℤ b
shared g counts b graph perfect =
    let each : int_sum_to (λ _. b) g.vertices ≡ pos g.vertices *ℤ b = int_sum_to-constant b g.vertices in
    handshake-perfect g counts (λ _. b) graph.ends perfect ∙ each

pub perfect-small : (g : Multigraph) (counts : List ℕ) → IsGraph g → IsPerfect g counts → IsSmall g.vertices (pos 2 *ℤ weight g counts)
perfect-small g counts graph perfect =
    let m = length g.edges in
    let c : ℕ → ℤ = λ k. pos (slice_index counts k) in
    let high : ℤ = pos 1000000000000 in
    let low : ℤ = neg_ℤ (pos 1000000000000) in
    let twice : pos 2 *ℤ weight g counts ≡ int_sum_to (λ k. pos 2 *ℤ (c k *ℤ (edge_at g k).w)) m = times-int_sum_to 2 (λ k. c k *ℤ (edge_at g k).w) m in
    let weights : (k : ℕ) → k < m → IsWeight (edge_at g k).w = λ k b. graph.weights k no_edge b in
    let most = int_sum_to-le (λ k. pos 2 *ℤ (c k *ℤ (edge_at g k).w)) (λ k. c k *ℤ (high +ℤ high)) m (λ k b. share-most (slice_index counts k) (edge_at g k).w (weights k b)) in
    let least = int_sum_to-le (λ k. c k *ℤ (low +ℤ low)) (λ k. pos 2 *ℤ (c k *ℤ (edge_at g k).w)) m (λ k b. share-least (slice_index counts k) (edge_at g k).w (weights k b)) in
    let above = shared g counts high graph perfect in
    let below = shared g counts low graph perfect in
    (omega (arith, ints, twice, least, below), omega (arith, ints, twice, most, above))

-- all weights added up
total-small : (i : Network) → IsNetwork i → (neg_ℤ (pos 65536000000000000) ≤ℤ total_weight i) × (total_weight i ≤ℤ pos 65536000000000000)
total-small i network =
    let g = graph_of i in
    let graph : IsGraph g = network-graph i network in
    let m = length i.edges in
    let size : length g.edges ≡ m = edges-count i in
    let few : m ≤ 65536 = network.few_edges in
    let within = int_sum_to-within (λ k. pos (slice_index (replicate {A = ℕ} m 1) k) *ℤ (edge_at g k).w) 1000000000000 (length g.edges)
    (λ k b. (let one : slice_index (replicate {A = ℕ} m 1) k ≡ 1 = get_or-replicate {A = ℕ} m k 1 0 (omega (arith, size, b)) in
    let w = edge_at-weight g k graph b in
    let low : neg_ℤ (pos 1000000000000) ≤ℤ (edge_at g k).w = w.0 in
    let high : (edge_at g k).w ≤ℤ pos 1000000000000 = w.1 in
    rw one (omega (arith, ints, low), omega (arith, ints, high)))) in
    let low : neg_ℤ (pos (length g.edges * 1000000000000)) ≤ℤ total_weight i = within.0 in
    let high : total_weight i ≤ℤ pos (length g.edges * 1000000000000) = within.1 in
    (omega (arith, ints, low, size, few), omega (arith, ints, high, size, few))

-- an answer's weight, where it asks for a value of at most that size

number-by : (value : DualValue) (i : Network) (w : ℤ) → IsNetwork i → neg_ℤ (pos 16384000000000000) ≤ℤ value_by value i w →
    value_by value i w ≤ℤ pos 16384000000000000 → IsNumber w
number-by Twice i w network low high = (omega (arith, ints), omega (arith, ints))
number-by Opposite i w network low high = (omega (arith, ints), omega (arith, ints))
number-by FourTimes i w network low high = (omega (arith, ints), omega (arith, ints))
number-by BesideAll i w network low high =
    let total = total-small i network in
    let least : neg_ℤ (pos 65536000000000000) ≤ℤ total_weight i = total.0 in
    let most : total_weight i ≤ℤ pos 65536000000000000 = total.1 in
    (omega (arith, ints, low, high, least, most), omega (arith, ints, low, high, least, most))

number-beside : (proof : BestProof) (i : Network) (w : ℤ) → IsNetwork i → neg_ℤ (pos 16384000000000000) ≤ℤ value_beside proof i w →
    value_beside proof i w ≤ℤ pos 16384000000000000 → IsNumber w
number-beside (Duals value) i w network low high = number-by value i w network low high
number-beside LighterBarrier i w network low high = number-by Twice i w network low high
number-beside OuterPaths i w network low high = (omega (arith, ints), omega (arith, ints))

-- the answer lies between two perfect matchings
pub number-of_answer : (kind : Kind) (i : Network) (g : Multigraph) (answer : Answer) (counts : List ℕ) → are_duals (proof_of kind) ≡ true → IsNetwork i →
    g ≡ gadget_graph kind i → IsGraph g → g.vertices ≤ GRAPH_VERTEX_LIMIT → ReachesAll kind i → IsFeasible kind i answer → IsPerfect g counts →
    value_for kind i (weight_of kind i answer) ≤ℤ (pos 2 *ℤ weight g counts) → IsNumber (weight_of kind i answer)
number-of_answer kind i g answer counts duals network is graph few reached feasible perfect pays =
    let r : IsReached kind i answer = reached-weighs (proof_of kind) kind i answer duals (reached answer feasible) in
    let there : Multigraph → Type 0 = λ h. (counts : List ℕ) × IsPerfect h counts × ((pos 2 *ℤ weight h counts) ≤ℤ value_for kind i (weight_of kind i answer)) in
    let other : there g = subst there (sym is) (r.counts, r.perfect, r.weighs) in
    let below : IsSmall g.vertices (pos 2 *ℤ weight g other.0) = perfect-small g other.0 graph other.1 in
    let above : IsSmall g.vertices (pos 2 *ℤ weight g counts) = perfect-small g counts graph perfect in
    let low : neg_ℤ (pos (g.vertices * 1000000000000)) ≤ℤ (pos 2 *ℤ weight g other.0) = below.0 in
    let high : (pos 2 *ℤ weight g counts) ≤ℤ pos (g.vertices * 1000000000000) = above.1 in
    let weighs : (pos 2 *ℤ weight g other.0) ≤ℤ value_for kind i (weight_of kind i answer) = other.2 in
    let most : g.vertices ≤ 16384 = few in
    number-beside (proof_of kind) i (weight_of kind i answer) network (omega (arith, ints, low, weighs, most)) (omega (arith, ints, high, pays, most))

-- what an answer pays for the listed edges it pays for the matching that they are
pub pays-for_matching : (kind : Kind) (i : Network) (g : Multigraph) (counts edges : List ℕ) (w : ℤ) → g ≡ gadget_graph kind i → IsPerfect g counts
    → ListsCounts g counts edges →
    value_for kind i w ≤ℤ (pos 2 *ℤ walk_weight (gadget_graph kind i) edges) → value_for kind i w ≤ℤ (pos 2 *ℤ weight g counts)
pays-for_matching kind i g counts edges w is perfect lists pays =
    let here : value_for kind i w ≤ℤ (pos 2 *ℤ walk_weight g edges) = subst (λ (h : Multigraph). value_for kind i w ≤ℤ (pos 2 *ℤ walk_weight h edges)) (sym is) pays in
    subst (λ (z : ℤ). value_for kind i w ≤ℤ (pos 2 *ℤ z)) (list-weight g counts edges perfect.one_each lists) here
