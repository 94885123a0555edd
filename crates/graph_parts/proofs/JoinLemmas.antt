-- Lemmas on the two outcomes: the edges that are taken as a join, and an odd part that excludes joins.
use Rattle.mb_problem.proofs.Common.{◌≡◌, ℕ, ◌+◌, ◌*◌, ◌≤◌, Bool, false, eqb, ap, sym, ◌∙◌, subst, arith, List, length, slice_index, eqb-true, eq-eqb, Multigraph}
use Rattle.mb_problem.proofs.Common.{IsEdgeNumber, edge_at, ends_at, degree, holds, IsOddPart, sum_to-same, one_if-most, all_holds, same_tests, odd_part_excludes, Network, IsNetwork}
use Rattle.mb_problem.proofs.Common.{graph_of, odd_at, IsJoinOf, listed_counts, ListsJoin, edges-count, network-graph, listed-length, listed-at}
use Rattle.mb_problem.specs.declared.answer.Parity.{Parity}
use Rattle.graph_parts.specs.Marks.{is_marked, ListsMarked}
use Rattle.graph_parts.specs.Flags.{taken_counts, IsBalanced}
use Rattle.graph_parts.specs.OddParts.{is_terminal}
use Rattle.graph_parts.proofs.FlagLemmas.{one_if, bit-test, flag-within, taken-at}

-- flags at the vertices of this parity
pub balanced-flags : (g : Multigraph) (odd : ℕ → ℕ) (taken first flags : List Bool) → ((v : ℕ) → odd v ≤ 1) → ((v : ℕ) → 1 ≤ v → v ≤ g.vertices → is_marked first v ≡ eqb (odd v) 1)
    → IsBalanced g (λ v. one_if (is_marked first v)) taken flags → IsBalanced g odd taken flags
balanced-flags g odd taken first flags small are even = λ v low high. even v low high ∙ ap one_if (are v low high) ∙ bit-test (odd v) (small v)

-- the taken edges are a join where no flag is left

listed-degree : (g : Multigraph) (edges : List ℕ) (taken : List Bool) (m v : ℕ) → length g.edges ≡ m → ListsMarked taken edges → degree g (listed_counts edges m) v
    ≡ degree g (taken_counts taken (length g.edges)) v
listed-degree g edges taken m v count lists =
    sum_to-same (λ k. slice_index (listed_counts edges m) k * ends_at (edge_at g k) v) (λ k. slice_index (taken_counts taken (length g.edges)) k * ends_at (edge_at g k) v) (length g.edges)
    (λ k b.
    let exact = lists.exact (k + 1) in
    let same : holds edges (k + 1) ≡ is_marked taken (k + 1) = same_tests (holds edges (k + 1)) (is_marked taken (k + 1)) (λ h. (exact.0 h).1) (λ h. exact.1 (omega arith, h)) in
    ap (λ (x : ℕ). x * ends_at (edge_at g k) v) (listed-at edges m k 0 (omega (arith, count, b)) ∙ ap one_if same ∙ sym (taken-at taken (length g.edges) k b)))

pub taken-join : (i : Network) (odd : ℕ → ℕ) (taken flags : List Bool) (edges : List ℕ) → length taken ≡ length (graph_of i).edges + 1 → ListsMarked taken edges
    → IsBalanced (graph_of i) odd taken flags → ((v : ℕ) → is_marked flags v ≡ false) → ListsJoin i odd edges
taken-join i odd taken flags edges size lists even off =
    let g = graph_of i in
    let m = length i.edges in
    let count : length g.edges ≡ m = edges-count i in
    record {
      ascending = lists.ascending;
      in_range = all_holds (IsEdgeNumber g) edges (λ e h.
          let r = (lists.exact e).0 h in
          (r.0, omega (arith, size, flag-within taken e r.1)));
      join = record {
        one_each = listed-length edges m;
        at_most_once = λ k d b.
            subst (λ (c : ℕ). c ≤ 1) (sym (listed-at edges m k d (omega (arith, listed-length edges m, b)))) (one_if-most (holds edges (k + 1)));
        degrees = λ v low high.
            let none : one_if (is_marked flags v) ≡ 0 = ap one_if (off v) in
            omega (arith, even v low high, none, listed-degree g edges taken m v count lists);
      };
    }

-- an odd part excludes joins
pub part-excludes : (parity : Parity) (i : Network) (part counts : List ℕ) → IsNetwork i → IsOddPart (graph_of i) (is_terminal parity i) part → IsJoinOf parity i counts → ⊥
part-excludes parity i part counts ok odd join =
    odd_part_excludes (graph_of i) (is_terminal parity i) part counts (network-graph i ok) odd (λ v low high.
    let d = join.degrees v low high in (
      λ one. eq-eqb (odd_at parity i v) 1 (sym d ∙ one),
      λ t. d ∙ eqb-true (odd_at parity i v) 1 t,
    ))
