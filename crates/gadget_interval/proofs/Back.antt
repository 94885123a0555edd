-- Each half of a perfect matching of the graph of two halves is a feasible answer, and both together weigh what the matching does.
use Rattle.mb_problem.proofs.Common.{◌≡◌, ℕ, ◌+◌, ◌-◌, ◌<◌, ◌≤◌, Bool, true, cond, ltb, ap, sym, ◌∙◌, subst, arith, List, length, slice_index, All, ◌^◌}
use Rattle.mb_problem.proofs.Common.{false, ℤ, pos, ◌+ℤ◌, ◌*ℤ◌, ◌≤ℤ◌, ◌<ℤ◌, int_lt, ints, lt-ltb, degree, weight, IsEdgeNumber, IsPerfect, walk_weight}
use Rattle.mb_problem.proofs.Common.{sum_to-most, Network, IsNetwork, vertices, at_most, graph_of, low_of, high_of, room_of, IsFeasible, DegreesMeet, sum_to-longer, sum_to-ones}
use Rattle.mb_problem.specs.declared.answer.Answer.TheVariants.{Counts}
use Rattle.gadget_base.proofs.Common.{half_graph, halves_graph, IsPerfectList, times_each, perfect_from_list, weight_of_list, times_each-length, list-length}
use Rattle.mb_problem.specs.declared.kind.Kind.TheVariants.{Interval}
use Rattle.gadget_cap.proofs.GateLemmas.{FillsGates, value, below, copies-below}
use Rattle.gadget_cap.proofs.Reached.{capacities-of_rooms}
use Rattle.gadget_cap.proofs.Back.{StandsFor}
use Rattle.gadget_cap.proofs.Extracted.{entries-stand, few-vertices}
use Rattle.gadget_interval.specs.Halves.{half_size, half_counts, in_first_half, in_second_half}
use Rattle.gadget_interval.proofs.Ends.{upper-network, halves-within, halves-no_loop}
use Rattle.gadget_interval.proofs.Pairs.{IsCovered, paired, paired-gate, paired-copy, on_halves, first-degree, second-degree, halves-weight}
use Rattle.gadget_interval.proofs.Parts.{after-numbers, listed_pairs, listed-halves}

module _ (i : Network) (P : ℕ → ℕ → ℕ) (es : List ℕ) (net : IsNetwork i) (numbers : All (IsEdgeNumber (half_graph i)) es)
    (covered : IsCovered i P (times_each (half_graph i) es)) where
  fills : FillsGates (at_most i) (room_of (at_most i)) (times_each (half_graph i) es)
  fills v past inside =
      subst (λ x. degree (half_graph i) (times_each (half_graph i) es) x ≡ 1) (let z : v - 1 + 1 ≡ v = omega (arith, past) in z)
      (omega (arith, covered (v - 1) (omega (arith, past, inside)), paired-gate i P (v - 1) net (omega (arith, past))))

  pub stands : StandsFor (at_most i) (room_of (at_most i)) (times_each (half_graph i) es) (half_counts i es)
  stands = entries-stand (at_most i) (room_of (at_most i)) es (upper-network i net) numbers fills

  -- the degree at a vertex is that of its copies together: 1 at those of the least degree, and at most 1 at the others
  between : (t : ℕ) → t < vertices i → (slice_index i.lows t ≤ degree (graph_of i) (half_counts i es) (t + 1))
      × (degree (graph_of i) (half_counts i es) (t + 1) ≤ slice_index i.highs t)
  between t b =
      let up = at_most i in
      let low = slice_index i.lows t in
      let ordered = net.ordered t in
      let b' : t < vertices up = omega (arith, b, net.high_each) in
      let all = stands.degrees t b' in
      let g : ℕ → ℕ = λ c. degree (half_graph i) (times_each (half_graph i) es) (below up t + c + 1) in
      let one : (c : ℕ) → c < value up t → g c + paired i P (below up t + c) ≡ 1 = λ c l. covered (below up t + c) (omega (arith, copies-below up t c b' l)) in
      let ones = sum_to-ones g low
      (λ c l.
      let l' : c < value up t = omega (arith, l, ordered) in
      let on : ltb c low ≡ true = lt-ltb c low l in
      let none : paired i P (below up t + c) ≡ 0 = paired-copy i P t c net b l' ∙ ap (λ (x : Bool). cond x 0 (P t (c - low))) on in
      omega (arith, one c l', none)) in
      let most = sum_to-most g 1 (value up t) (λ c l. omega (arith, one c l)) in
      let longer = sum_to-longer g low (value up t) ordered in
      (omega (arith, all, ones, longer), omega (arith, all, most))

  pub part-feasible : IsFeasible Interval i (Counts (half_counts i es))
  part-feasible =
      let degree_at : ℕ → ℕ = degree (graph_of i) (half_counts i es) in
      let degrees : DegreesMeet i (half_counts i es) (λ v d. (low_of i v ≤ d) × (d ≤ high_of i v)) = λ v low high.
      let at : v - 1 + 1 ≡ v = omega (arith, low) in
      subst (λ x. (low_of i v ≤ degree_at x) × (degree_at x ≤ high_of i v)) at (between (v - 1) (omega (arith, low, high))) in
      (record { one_each = stands.one_each; degrees = degrees }, capacities-of_rooms (at_most i) (half_counts i es) stands.rooms)

-- what both halves of a perfect matching say
pub record AreHalves (i : Network) (es : List ℕ) : Type 0 where
  pub size_limit : length es < 2 ^ 32
  pub first : IsFeasible Interval i (Counts (half_counts i (in_first_half i es)))
  pub second : IsFeasible Interval i (Counts (half_counts i (in_second_half i es)))
  pub weighs : weight (graph_of i) (half_counts i (in_first_half i es)) +ℤ weight (graph_of i) (half_counts i (in_second_half i es)) ≡ walk_weight (halves_graph i) es

pub are_halves : (i : Network) (es : List ℕ) → IsNetwork i → IsPerfectList (halves_graph i) es → AreHalves i es
are_halves i es net perfect =
    let half = half_graph i in
    let n = half.vertices in
    let m = half_size i in
    let P = listed_pairs i es in
    let es1 = in_first_half i es in
    let es2 = in_second_half i es in
    let one = times_each half es1 in
    let two = times_each half es2 in
    let size = times_each-length half es1 in
    let size' = times_each-length half es2 in
    let ends = halves-within i net in
    let plain = halves-no_loop i net in
    let counts : IsPerfect (halves_graph i) (on_halves i one two P) = subst (IsPerfect (halves_graph i)) (listed-halves i es) (perfect_from_list (halves_graph i) es ends plain perfect) in
    let covered : IsCovered i P one = λ q b. sym (first-degree i one two P q net size size' b) ∙ counts.degrees (q + 1) (omega arith) (omega (arith, b)) in
    let covered' : IsCovered i P two = λ q b. sym (second-degree i one two P q net size size') ∙ counts.degrees (q + 1 + n) (omega arith) (omega (arith, b)) in
    let stands1 = stands i P es1 net (after-numbers 0 m es) covered in
    let stands2 = stands i P es2 net (after-numbers m m es) covered' in
    let both = halves-weight i one two P size size' in
    let all = ap (weight (halves_graph i)) (listed-halves i es) in
    let listed = weight_of_list (halves_graph i) es perfect.numbers in
    record {
      size_limit = omega (arith, list-length (halves_graph i) es ends plain perfect, few-vertices false (at_most i) (upper-network i net));
      first = part-feasible i P es1 net (after-numbers 0 m es) covered;
      second = part-feasible i P es2 net (after-numbers m m es) covered';
      weighs = omega (arith, ints, both, all, listed, stands1.weighs, stands2.weighs);
    }

-- the lighter half weighs at most half of both

pub second-lighter : (walk a b : ℤ) → a +ℤ b ≡ walk → int_lt b a ≡ true → (pos 2 *ℤ b) ≤ℤ walk
second-lighter walk a b sum less = let order : b <ℤ a = grind (arith, ints) in omega (arith, ints, sum, order)

pub first-lighter : (walk a b : ℤ) → a +ℤ b ≡ walk → int_lt b a ≡ false → (pos 2 *ℤ a) ≤ℤ walk
first-lighter walk a b sum more = let order : a ≤ℤ b = grind (arith, ints) in omega (arith, ints, sum, order)
