-- The finished walk as an answer of the postman.
use Rattle.mb_problem.proofs.Common.{◌≡◌, ℕ, ◌+◌, ◌-◌, ◌<◌, ◌≤◌, ap, true, arith, List, length, cond, slice_index, subst, ◌∙◌, Multigraph, holds}
use Rattle.mb_problem.proofs.Common.{IsClosedWalk, Network, graph_of, IsTour, edges-count, some-member as some_held}
use Rattle.gadget_base.proofs.Common.{times, times-held}
use Rattle.postman_walk.specs.Tours.{IsLeastMet, UsesOnceAndJoinTwice}

-- a closed walk that uses each edge is a tour, where an edge meets its start
pub tour-uses : (i : Network) (start : ℕ) (join walk : List ℕ) → IsClosedWalk (graph_of i) start walk → UsesOnceAndJoinTwice i join walk → IsLeastMet (graph_of i) start
    → IsTour i start walk
tour-uses i start join walk closed uses met =
    let held : (e : ℕ) → 1 ≤ e → e ≤ length i.edges → holds walk e ≡ true = λ e low high.
    let back : e - 1 + 1 ≡ e = omega arith in
    let same : times walk (e - 1 + 1) ≡ times walk e = ap (times walk) back in
    times-held walk e (omega (arith, uses (e - 1) (omega arith), same)) in
    let first : met.met.0 < length i.edges = let b = met.met.1 in omega (arith, edges-count i, b) in
    record {
      closed = closed;
      some = some_held walk 1 (held 1 (omega arith) (omega arith));
      all = held;
    }

-- the uses of each edge, where they were counted for as many edges and the same join
pub uses-each : (uses join listed : List ℕ) (count m : ℕ) → count ≡ m → listed ≡ join → ((k : ℕ) → k < count → slice_index uses k ≡ 1 + cond (holds listed (k + 1)) 1 0)
    → (k : ℕ) → k < m → slice_index uses k ≡ 1 + cond (holds join (k + 1)) 1 0
uses-each uses join listed count m size same each k b = subst (λ (xs : List ℕ). slice_index uses k ≡ 1 + cond (holds xs (k + 1)) 1 0) same (each k (omega (arith, size, b)))

-- a walk that uses each edge so often uses each once and those of the join twice
pub uses-walked : (i : Network) (g : Multigraph) (uses join walk : List ℕ) → g ≡ graph_of i
    → ((k : ℕ) → k < length i.edges → slice_index uses k ≡ 1 + cond (holds join (k + 1)) 1 0) → ((k : ℕ) → k < length g.edges → times walk (k + 1) ≡ slice_index uses k)
    → UsesOnceAndJoinTwice i join walk
uses-walked i g uses join walk is each walked k b =
    let size : length g.edges ≡ length i.edges = ap (λ (h : Multigraph). length h.edges) is ∙ edges-count i in
    walked k (omega (arith, size, b)) ∙ each k b
