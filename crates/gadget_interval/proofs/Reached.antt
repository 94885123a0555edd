-- Each feasible answer has its perfect matching of the graph of two halves: the same in both, and the pairs of the copies that it leaves free.
use Rattle.mb_problem.proofs.Common.{◌≡◌, ℕ, ◌+◌, ◌-◌, ◌<◌, ◌≤◌, cond, ltb, subst, arith, inl, inr, List, slice_index, ints, cases_lt, nat_tests, degree, Network}
use Rattle.mb_problem.proofs.Common.{IsNetwork, vertices, at_most, graph_of, value_total, room_of, IsBetweenBounds, find_block}
use Rattle.mb_problem.specs.declared.answer.Answer.TheVariants.{Counts, Walk, Nothing}
use Rattle.gadget_base.proofs.Common.{half_graph, halves_graph, IsReached, ReachesAll, perfect_from_degrees}
use Rattle.mb_problem.specs.declared.kind.Kind.TheVariants.{Interval}
use Rattle.gadget_cap.proofs.GateLemmas.{value, all_counts}
use Rattle.gadget_cap.proofs.Through.{through, TakesFirst, takes_first}
use Rattle.gadget_cap.proofs.Reached.{rooms-of_capacities}
use Rattle.gadget_interval.proofs.Ends.{upper-network, halves-within}
use Rattle.gadget_interval.proofs.Pairs.{paired, paired-gate, paired-copy, on_halves, on_halves-length, IsCovered, halves-degrees, halves-weight}

-- the pair of a copy is counted where the answer leaves the copy free
abbrev pub free_pairs : Network → List ℕ → ℕ → ℕ → ℕ
free_pairs i counts k a = cond (ltb (slice_index i.lows k + a) (degree (graph_of i) counts (k + 1))) 0 1

taken_or_free : (c low d : ℕ) → low ≤ d → cond (ltb c d) 1 0 + cond (ltb c low) 0 (cond (ltb (low + (c - low)) d) 0 1) ≡ 1
taken_or_free c low d least = grind (arith, nat_tests)

module _ (i : Network) (counts taking : List ℕ) (net : IsNetwork i) (answer : IsBetweenBounds i counts) (takes : TakesFirst (at_most i) (room_of (at_most i)) counts taking) where
  covered : IsCovered i (free_pairs i counts) taking
  covered q low =
      let up = at_most i in
      let P = free_pairs i counts in
      elim (cases_lt q (value_total up)) [
        | inl copy ↦
            let found = find_block (value up) (vertices up) q copy in
            let t = found.block in
            let c = found.place in
            let d = degree (graph_of i) counts (t + 1) in
            let inside : t < vertices i = omega (arith, found.block_low, net.high_each) in
            let back : t + 1 - 1 ≡ t = omega arith in
            let least : slice_index i.lows t ≤ d = subst (λ k. slice_index i.lows k ≤ d) back (answer.degrees (t + 1) (omega arith) (omega (arith, inside))).0 in
            let here = takes.copies t c found.block_low found.place_low in
            let pair = paired-copy i P t c net inside found.place_low in
            let one = taken_or_free c (slice_index i.lows t) d least in
            subst (λ x. degree (half_graph i) taking (x + 1) + paired i P x ≡ 1) found.is (omega (arith, here, pair, one))
        | inr gate ↦ omega (arith, paired-gate i P q net gate, takes.gates (q + 1) (omega (arith, gate)) (omega (arith, low)))
      ]

  pub free-reached : IsReached Interval i (Counts counts)
  free-reached =
      let P = free_pairs i counts in
      let size = takes.one_each in
      record {
        counts = on_halves i taking taking P;
        perfect = perfect_from_degrees (halves_graph i) (on_halves i taking taking P) (halves-within i net) (on_halves-length i taking taking P size size)
            (halves-degrees i taking taking P net size size covered covered);
        weighs = omega (arith, ints, halves-weight i taking taking P size size, takes.weighs);
      }

pub reached : (i : Network) → IsNetwork i → ReachesAll Interval i
reached i net (Counts counts) feasible =
    let up = at_most i in
    let net' = upper-network i net in
    let answer : IsBetweenBounds i counts = feasible.0 in
    let rooms = rooms-of_capacities up counts net' answer.one_each (λ v low high. (answer.degrees v low (omega (arith, high, net.high_each))).1) feasible.1 in
    free-reached i counts (all_counts up (room_of up) (through up (room_of up) counts)) net answer (takes_first up (room_of up) counts net' rooms)
reached i net (Walk start edges) feasible = absurd feasible
reached i net Nothing feasible = absurd feasible
