-- A path is a join on its two ends.
use Rattle.mb_problem.proofs.Common.{◌≡◌, ℕ, ◌+◌, ◌%◌, ◌≤◌, ℤ, pos, ◌*ℤ◌, ◌≤ℤ◌, eqb, ap, sym, ◌∙◌, inl, inr, arith, List, length, cases_eq, ints}
use Rattle.mb_problem.proofs.Common.{length-map, weight, walk_end, walk_weight, walk-numbers, Network, IsNetwork, vertices, graph_of, plain, value_of, IsPath, AreEnds, odd_at, IsJoinOf}
use Rattle.mb_problem.proofs.Common.{one_if-same, one_if-other, one_if}
use Rattle.mb_problem.specs.declared.answer.Answer.TheVariants.{Counts, Walk, Nothing}
use Rattle.gadget_base.proofs.Common.{ports_graph, ReachesAll, times, times_each, All-tabled, times_each-length, weight_of_list}
use Rattle.mb_problem.specs.declared.kind.Kind.TheVariants.{Path}
use Rattle.mb_problem.specs.declared.answer.Parity.{Parity}
use Rattle.mb_problem.specs.declared.answer.Parity.TheVariants.{Values}
use Rattle.gadget_tjoin.proofs.WalkParity.{walk-parity, used_once}
use Rattle.gadget_tjoin.proofs.Places.{graph-within}
use Rattle.gadget_tjoin.proofs.Laws.{reaches-joins}

-- the value of a vertex is odd where it is one of the ends
ends-odd : (i : Network) (s t x : ℕ) → AreEnds i s t → 1 ≤ x → x ≤ vertices i → (one_if (eqb s x) + one_if (eqb t x)) % 2 ≡ value_of i x % 2
ends-odd i s t x ends low high =
    let apart = ends.order in
    elim (cases_eq s x) [
      | inl at_s ↦
          let odd : value_of i x % 2 ≡ 1 = ((ends.exact x).1 (inl (sym at_s))).2 in
          omega (arith, one_if-same s x at_s, one_if-other t x (λ e. omega (arith, e, at_s, apart)), odd)
      | inr off_s ↦ elim (cases_eq t x) [
        | inl at_t ↦
            let odd : value_of i x % 2 ≡ 1 = ((ends.exact x).1 (inr (sym at_t))).2 in
            omega (arith, one_if-other s x off_s, one_if-same t x at_t, odd)
        | inr off_t ↦
            let even : value_of i x % 2 ≡ 0 = elim (cases_eq (value_of i x % 2) 1) [
              | inl odd ↦ elim ((ends.exact x).0 (low, high, odd)) [ inl e ↦ absurd (off_s (sym e)) | inr e ↦ absurd (off_t (sym e)) ]
              | inr d ↦ omega (arith, d)
            ] in
            omega (arith, one_if-other s x off_s, one_if-other t x off_t, even)
      ]
    ]

pub path-join : (i : Network) (start : ℕ) (es : List ℕ) → IsNetwork i → IsPath i start es → IsJoinOf Values i (times_each (graph_of i) es)
path-join i start es ok path =
    let g = graph_of i in
    let ends = graph-within i ok in
    record {
      one_each = times_each-length g es ∙ length-map i.edges plain;
      at_most_once = All-tabled (λ c. c ≤ 1) (λ k. times es (k + 1)) (length g.edges) (λ k b. used_once g start (k + 1) es ends path.walk path.no_vertex_twice);
      degrees = λ x low high.
          let walk = walk-parity g start x es ends path.walk in
          let home : one_if (eqb (walk_end g start es) x) ≡ one_if (eqb path.finish x) = ap (λ (y : ℕ). one_if (eqb y x)) path.arrives in
          let odd = ends-odd i start path.finish x path.ends low high in
          omega (arith, walk, home, odd);
    }

twice-same : (a b c : ℤ) → a ≡ b → b ≡ c → (pos 2 *ℤ a) ≤ℤ (pos 2 *ℤ c)
twice-same a b c e h = omega (arith, ints, e, h)

paths-reached : (i : Network) → IsNetwork i → ReachesAll Path i
paths-reached i ok (Counts counts) h = absurd h
paths-reached i ok (Walk start edges) path =
    let r = reaches-joins Values i ok (times_each (graph_of i) edges) (path-join i start edges ok path) in
    let same = weight_of_list (graph_of i) edges (walk-numbers (graph_of i) start edges path.walk) in
    record {
      counts = r.counts;
      perfect = r.perfect;
      weighs = twice-same (weight (ports_graph i (odd_at Values i)) r.counts) (weight (graph_of i) (times_each (graph_of i) edges)) (walk_weight (graph_of i) edges) r.weighs same;
    }
paths-reached i ok Nothing h = absurd h

pub reaches_paths : (parity : Parity) (i : Network) → IsNetwork i → parity ≡ Values → ReachesAll Path i
reaches_paths parity i ok is = paths-reached i ok
