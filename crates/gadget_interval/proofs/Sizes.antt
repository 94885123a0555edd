-- The size of the graph of two halves, and what stands before the pairs of a vertex in it.
use Rattle.mb_problem.proofs.Common.{◌≡◌, ℕ, ◌+◌, ◌-◌, ◌<◌, ◌≤◌, false, ap, sym, ◌∙◌, arith, length, ◌++◌, List, slice_index, pos, length-map, HasSize}
use Rattle.mb_problem.proofs.Common.{sum_to, Edge, sum_to-same, sum_to-more, Network, IsNetwork, vertices, at_most, low_of, high_of, size_of, spare_copies, value_total, length-append}
use Rattle.mb_problem.proofs.Common.{sum_to-grows, ◌*◌, ◌^◌, Multigraph, IsWithinLimits}
use Rattle.gadget_base.proofs.Common.{blocks, tabled, values_below, spare_pair, half_graph, halves_graph, moved, moved_edge, blocks-length, tabled-length, copies-inside}
use Rattle.mb_problem.specs.declared.kind.Kind.TheVariants.{CapMatch, Interval}
use Rattle.gadget_cap.proofs.Sizes.{has_size}

-- the pairs of vertex k + 1, and those of the first k vertices

abbrev pub pairs : Network → ℕ → ℕ → List Edge
pairs i by k = tabled (spare_pair i by k) (spare_copies i k)

pub pairs-before : (i : Network) (by k : ℕ) → length (blocks (pairs i by) k) ≡ sum_to (spare_copies i) k
pairs-before i by k = blocks-length (pairs i by) k ∙ sum_to-same (λ j. length (pairs i by j)) (spare_copies i) k (λ j _. tabled-length (spare_pair i by j) (spare_copies i j))

pub pairs-grow : (i : Network) (k : ℕ) → k < vertices i → sum_to (spare_copies i) k + spare_copies i k ≤ sum_to (spare_copies i) (vertices i)
pairs-grow i k b = sum_to-grows (spare_copies i) k (vertices i) b

-- the copies of vertex k + 1 come after those before it, and only those past its least degree have pairs
pub copies-grow : (i : Network) (k : ℕ) → IsNetwork i → k < vertices i → (low_of i (k + 1) ≤ high_of i (k + 1)) × (values_below (at_most i) (k + 1) + high_of i (k + 1)
    ≤ value_total (at_most i))
copies-grow i k net b = (net.ordered (k + 1 - 1), copies-inside (at_most i) (k + 1) (omega arith) (omega (arith, net.high_each)))

pub next-copies : (i : Network) (k : ℕ) → values_below (at_most i) (k + 1 + 1) ≡ values_below (at_most i) (k + 1) + high_of i (k + 1)
next-copies i k =
    let next : k + 1 + 1 - 1 ≡ k + 1 = omega arith in
    let back : k + 1 - 1 ≡ k = omega arith in
    let high : ℕ → ℕ = λ j. slice_index i.highs j in
    ap (sum_to high) next ∙ sum_to-more high k ∙ ap (λ j. sum_to high j + high j) (sym back)

abbrev twins : ℕ → ℕ → ℕ → ℕ → List Edge
twins by before low high = tabled (λ a. record { u = before + (low + a) + 1; v = before + (low + a) + 1 + by; w = pos 0 }) (high - low)

pub next-pairs : (i : Network) (by k before low high : ℕ) → before ≡ values_below (at_most i) (k + 1) → low ≡ low_of i (k + 1) → high ≡ high_of i (k + 1)
    → tabled (λ a. record {
      u = before + (low + a) + 1;
      v = before + (low + a) + 1 + by;
      w = pos 0;
    }) (high - low) ≡ pairs i by k
next-pairs i by k before low high b l h =
    ap (λ x. twins by x low high) b ∙ ap (λ x. twins by (values_below (at_most i) (k + 1)) x high) l ∙ ap (twins by (values_below (at_most i) (k + 1)) (low_of i (k + 1))) h

-- both halves and the pairs
pub halves-edges : (i : Network) → length (halves_graph i).edges ≡ length (half_graph i).edges + (length (half_graph i).edges + sum_to (spare_copies i) (vertices i))
halves-edges i =
    let half = half_graph i in
    let two = moved half.vertices half.edges in
    let rest = blocks (pairs i half.vertices) (vertices i) in
    omega (
      arith,
      length-append half.edges (two ++ rest),
      length-append two rest,
      length-map half.edges (moved_edge half.vertices),
      pairs-before i half.vertices (vertices i),
    )

pub sized : (i : Network) → HasSize (size_of Interval i) (halves_graph i)
sized i = let half = has_size false (at_most i) in record { vertices = omega (arith, half.vertices); edges = omega (arith, half.edges, halves-edges i) }

pub half-limits : (i : Network) → IsWithinLimits (size_of Interval i) → IsWithinLimits (size_of CapMatch (at_most i))
half-limits i limits = record { vertices = omega (arith, limits.vertices); edges = omega (arith, limits.edges) }

-- numbers of vertices and edges fit in 32 bits
pub halves-fit : (i : Network) (half : Multigraph) (by : ℕ) → half ≡ half_graph i → by ≡ half.vertices → IsWithinLimits (size_of Interval i) → (2 * by < 2 ^ 32)
    × (length half.edges + length half.edges + sum_to (spare_copies i) (vertices i) < 2 ^ 32)
halves-fit i half by is count limits =
    let size = has_size false (at_most i) in
    let vertices : half.vertices ≡ (half_graph i).vertices = ap (λ (g : Multigraph). g.vertices) is in
    let edges : length half.edges ≡ length (half_graph i).edges = ap (λ (g : Multigraph). length g.edges) is in
    (omega (arith, limits.vertices, size.vertices, vertices, count), omega (arith, limits.edges, size.edges, edges))
