-- Joins at the vertices of odd degree are those of the instance whose odd values stand there.
use Rattle.mb_problem.proofs.Common.{◌≡◌, ℕ, ◌+◌, ◌-◌, ◌%◌, ◌<◌, ◌≤◌, ◌≤ℤ◌, List, Option, Some, None, length, slice_index, replicate, map, sym, ap}
use Rattle.mb_problem.proofs.Common.{◌∙◌, subst, refl, arith, length-replicate, All-replicate, Multigraph, degree, weight, Network, graph_of, vertices, value_of, plain, odd_at}
use Rattle.mb_problem.proofs.Common.{edge_count_at, IsJoin, IsBest, AtMostOnce, IsJoinOf}
use Rattle.mb_problem.specs.declared.instance.InstanceEdge.{InstanceEdge}
use Rattle.mb_problem.specs.declared.answer.Answer.TheVariants.{Counts, Walk, Nothing}
use Rattle.mb_problem.specs.declared.kind.Kind.TheVariants.{TJoin}
use Rattle.mb_problem.specs.declared.answer.Answer.{Answer}
use Rattle.mb_problem.specs.declared.answer.Parity.TheVariants.{OddDegrees}
use Rattle.brute_force.specs.Best.{IsBestOrNone}
use Rattle.brute_force.specs.Tours.{IsLeastOddJoin, counts_in}

abbrev built : ℕ → List InstanceEdge → Multigraph
built n es = record { vertices = n; edges = map plain es }

same_graph : (i j : Network) → j.edges ≡ i.edges → vertices j ≡ vertices i → graph_of j ≡ graph_of i
same_graph i j edges size = ap (λ (n : ℕ). built n j.edges) size ∙ ap (λ (es : List InstanceEdge). built (vertices i) es) edges

once-each : (n : ℕ) → AtMostOnce (replicate n 1)
once-each n = All-replicate (λ c. c ≤ 1) n 1 (let low : 1 ≤ 1 = omega arith in low)

-- all edges are such a join
pub all-odd : (i : Network) → IsJoinOf OddDegrees i (replicate (length i.edges) 1)
all-odd i = record {
  one_each = length-replicate (length i.edges) 1;
  at_most_once = once-each (length i.edges);
  degrees = λ v low high. refl;
}

module _ (i j : Network) (edges : j.edges ≡ i.edges) (size : vertices j ≡ vertices i) (each : (k : ℕ) → k < vertices i → slice_index j.values k ≡ odd_at OddDegrees i (k + 1)) where
  -- the value of a vertex has the parity of its degree
  odd_value : (v : ℕ) → 1 ≤ v → v ≤ vertices i → value_of j v % 2 ≡ odd_at OddDegrees i v
  odd_value v low high =
      let back : v - 1 + 1 ≡ v = omega arith in
      let here : v - 1 < vertices i = omega arith in
      let is : value_of j v ≡ odd_at OddDegrees i v = each (v - 1) here ∙ ap (λ (w : ℕ). odd_at OddDegrees i w) back in
      let bit : odd_at OddDegrees i v ≡ edge_count_at i v % 2 = refl in
      omega (arith, is, bit)

  same_degree : (counts : List ℕ) (v : ℕ) → degree (graph_of j) counts v ≡ degree (graph_of i) counts v
  same_degree counts v = ap (λ (g : Multigraph). degree g counts v) (same_graph i j edges size)

  same_weight : (counts : List ℕ) → weight (graph_of j) counts ≡ weight (graph_of i) counts
  same_weight counts = ap (λ (g : Multigraph). weight g counts) (same_graph i j edges size)

  pub join-odd : (counts : List ℕ) → IsJoin j counts → IsJoinOf OddDegrees i counts
  join-odd counts join = record {
    one_each = join.one_each ∙ ap length edges;
    at_most_once = join.at_most_once;
    degrees = λ v low high. ap (λ (d : ℕ). d % 2) (sym (same_degree counts v)) ∙ (join.degrees v low (let within : v ≤ vertices j = omega (arith, size, high) in within)
        ∙ odd_value v low high);
  }

  pub odd-join : (counts : List ℕ) → IsJoinOf OddDegrees i counts → IsJoin j counts
  odd-join counts join = record {
    one_each = join.one_each ∙ sym (ap length edges);
    at_most_once = join.at_most_once;
    degrees = λ v low high. let within : v ≤ vertices i = omega (arith, size, high) in
        ap (λ (d : ℕ). d % 2) (same_degree counts v) ∙ (join.degrees v low within ∙ sym (odd_value v low within));
  }

  pub least-odd : (counts : List ℕ) → IsBest TJoin j (Counts counts) → IsLeastOddJoin i counts
  least-odd counts best = record {
    join = join-odd counts best.feasible;
    least = λ others other. subst (λ z. z ≤ℤ weight (graph_of i) others) (same_weight counts) (subst (λ z. weight (graph_of j) counts ≤ℤ z) (same_weight others) (best.best (Counts others)
        (odd-join others other)));
  }

  -- what is found best is such a join
  pub found-odd : (found : Option Answer) → IsBestOrNone TJoin j found → IsLeastOddJoin i (counts_in found)
  found-odd None none = absurd (none (Counts (replicate (length i.edges) 1)) (odd-join (replicate (length i.edges) 1) (all-odd i)))
  found-odd (Some (Counts counts)) best = least-odd counts best
  found-odd (Some (Walk start edges)) best = absurd best.feasible
  found-odd (Some Nothing) best = absurd best.feasible
