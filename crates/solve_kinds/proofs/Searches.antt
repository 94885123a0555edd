-- What a search on the graph of a kind's certificates finds, and how many steps it takes.
use Rattle.certificates.proofs.Common.{◌≡◌, ℕ, zero, suc, ◌+◌, ◌-◌, ◌*◌, ◌%◌, ◌≤◌, pos, ◌≤ℤ◌, true, List, length, refl, sym, ap}
use Rattle.certificates.proofs.Common.{subst, arith, replicate, mul-le-mul, ints, length-replicate, All-replicate, Multigraph, weight, walk_weight, GRAPH_VERTEX_LIMIT}
use Rattle.certificates.proofs.Common.{GRAPH_EDGE_LIMIT, Size, IsWithinLimits, HasSize, Kind, Parity, Empty, OddDegrees, asks_conservative, searches_of, HasNoNegativeEvenSet, EvenSetsDecide}
use Rattle.certificates.proofs.Common.{Network, IsNetwork, graph_of, ports_size, odd_at, size_of, IsNoLarger, nothing-used, even-no-larger, two-searches, ports_graph, ReachesJoins}
use Rattle.mb_problem.specs.Joins.{HasJoin}
use Rattle.join_check.specs.Least.{IsLeastJoin}
use Rattle.mwpm_engine.specs.Solutions.{HasPerfect, most_steps, size_of_graph}
use Rattle.solve_answers.specs.Solved.{HasFitWeights}

-- a graph has the vertices and edges of its size
same-size : (size : Size) (g : Multigraph) → HasSize size g → size_of_graph g ≡ size
same-size size g h = rw (h.vertices, h.edges) refl

pub fewer-steps : (a b : Size) → IsNoLarger a b → most_steps a ≤ most_steps b
fewer-steps a b h =
    let vs : a.vertices ≤ b.vertices = h.vertices in
    let es : a.edges ≤ b.edges = h.edges in
    let few : a.vertices + 1 ≤ b.vertices + 1 = omega (arith, vs) in
    let phases : 3 * a.vertices + 2 ≤ 3 * b.vertices + 2 = omega (arith, vs) in
    let looks : a.edges + 1 ≤ b.edges + 1 = omega (arith, es) in
    mul-le-mul (mul-le-mul few phases) looks

within-smaller : (a b : Size) → IsNoLarger a b → IsWithinLimits b → IsWithinLimits a
within-smaller a b h limits =
    let vs : a.vertices ≤ b.vertices = h.vertices in
    let es : a.edges ≤ b.edges = h.edges in
    let few_vs : b.vertices ≤ GRAPH_VERTEX_LIMIT = limits.vertices in
    let few_es : b.edges ≤ GRAPH_EDGE_LIMIT = limits.edges in
    record { vertices = omega (arith, vs, few_vs); edges = omega (arith, es, few_es) }

-- a graph that is no larger than the size that is allowed

pub graph-limits : (s b : Size) (g : Multigraph) → HasSize s g → IsNoLarger s b → IsWithinLimits b → IsWithinLimits (size_of_graph g)
graph-limits s b g has smaller limits = subst IsWithinLimits (sym (same-size s g has)) (within-smaller s b smaller limits)

pub graph-steps : (s b : Size) (g : Multigraph) → HasSize s g → IsNoLarger s b → most_steps (size_of_graph g) ≤ most_steps b
graph-steps s b g has smaller = subst (λ (t : Size). most_steps t ≤ most_steps b) (sym (same-size s g has)) (fewer-steps s b smaller)

-- perfect matchings of the graph of certificates

pub join-perfect : (parity : Parity) (i : Network) → ReachesJoins parity i → HasJoin parity i → HasPerfect (ports_graph i (odd_at parity i))
join-perfect parity i reached join = let r = reached join.0 join.1 in (r.counts, r.perfect)

-- all edges are a join on the vertices of odd degree
pub all-edges : (i : Network) → HasJoin OddDegrees i
all-edges i = (
  replicate {A = ℕ} (length i.edges) 1,
  record {
    one_each = length-replicate (length i.edges) 1;
    at_most_once = All-replicate (λ c. c ≤ 1) (length i.edges) 1 (omega arith);
    degrees = λ v low high. refl;
  },
)

-- no edge is one with even degrees
pub no-edges : (i : Network) → HasJoin Empty i
no-edges i = (
  replicate {A = ℕ} (length i.edges) 0,
  record {
    one_each = length-replicate (length i.edges) 0;
    at_most_once = All-replicate (λ c. c ≤ 1) (length i.edges) 0 (omega arith);
    degrees = λ v low high. ap (λ (d : ℕ). d % 2) (nothing-used i v);
  },
)

-- where an even set of least weight weighs at least 0, all do, and no circuit weighs less
even-sets : (i : Network) (es : List ℕ) → IsLeastJoin Empty i es → pos 0 ≤ℤ walk_weight (graph_of i) es → HasNoNegativeEvenSet i
even-sets i es least low = λ counts join. (let more : walk_weight (graph_of i) es ≤ℤ weight (graph_of i) counts = least.least counts join in omega (arith, ints, low, more))

pub fit-even : (kind : Kind) (i : Network) → IsNetwork i → EvenSetsDecide → HasNoNegativeEvenSet i → HasFitWeights kind i × (asks_conservative kind ≡ true → HasNoNegativeEvenSet i)
fit-even kind i network decide even = (λ asks. decide i network even, λ asks. even)

pub fit-weights : (kind : Kind) (i : Network) (es : List ℕ) → IsNetwork i → EvenSetsDecide → IsLeastJoin Empty i es → pos 0 ≤ℤ walk_weight (graph_of i) es →
    HasFitWeights kind i × (asks_conservative kind ≡ true → HasNoNegativeEvenSet i)
fit-weights kind i es network decide least low = fit-even kind i network decide (even-sets i es least low)

-- the counts of a join have one for each edge
at-least-once : (n m : ℕ) → 1 ≤ n → m ≤ n * m
at-least-once zero m some = absurd (omega arith)
at-least-once (suc n) m some = omega arith

steps-within : (before after few m s : ℕ) → after ≤ before + few → few ≤ m → 1 ≤ s → after ≤ before + s * m
steps-within before after few m s counted less some = (let once = at-least-once s m some in omega (arith, counted, less, once))

-- the steps of the search for an even set that weighs the least
pub even-steps : (kind : Kind) (i : Network) (before after : ℕ) → asks_conservative kind ≡ true → after ≤ before + most_steps (ports_size i (odd_at Empty i)) →
    after ≤ before + (searches_of kind - 1) * most_steps (size_of kind i)
even-steps kind i before after asks counted =
    let two : 2 ≤ searches_of kind = two-searches kind asks in
    let one : 1 ≤ searches_of kind - 1 = omega (arith, two) in
    steps-within before after (most_steps (ports_size i (odd_at Empty i))) (most_steps (size_of kind i)) (searches_of kind - 1) counted
    (fewer-steps (ports_size i (odd_at Empty i)) (size_of kind i) (even-no-larger kind i asks)) one
