-- The edges of which a perfect matching of the graph of two copies has exactly one copy: a join at the two ends, and the paths within it.
use Rattle.mb_problem.proofs.Common.{◌≡◌, ◌≢◌, ℕ, ◌+◌, ◌-◌, ◌*◌, ◌<◌, ◌≤◌, ◌%◌, ℤ, pos, ◌+ℤ◌, ◌*ℤ◌, ◌≤ℤ◌, Bool, true, false}
use Rattle.mb_problem.proofs.Common.{not, cond, ◌&&◌, refl, ap, sym, ◌∙◌, subst, inl, inr, arith, List, length, slice_index, All, ints, cases_Bool, and_left, and_right}
use Rattle.mb_problem.proofs.Common.{false≢true, get_or_default, All-weaker, Multigraph, IsEdgeNumber, IsPerfect, ends_at, degree, weight, holds, walk_weight, sum_to-add, sum_to-parity}
use Rattle.mb_problem.proofs.Common.{int_sum_to-add, int_sum_to-le, int_sum_to-zero, times-le, holds_all, IsFeasible, IsPathOf, IsWalkWith, AreEnds, weight_by, weight_of, ListsJoin}
use Rattle.mb_problem.proofs.Common.{odd_between, listed_counts, HasNoNegativeEvenSet, Network, IsNetwork, vertices, graph_of, plain, instance_edge_at, no_instance_edge, HasWeightsFromZero}
use Rattle.mb_problem.proofs.Common.{standing, joins, in_first, in_second, edges-count, network-graph, listed-length, listed-at, sum_to-grows, one_if}
use Rattle.mb_problem.specs.declared.answer.Answer.TheVariants.{Counts, Walk, Nothing}
use Rattle.gadget_base.proofs.Common.{gadget_graph, IsPerfectList, place_in, sides_graph, times_each, tabled-at, times_each-at, times_each-length, times-small, perfect_from_list}
use Rattle.gadget_base.proofs.Common.{weight_of_list, times-holds, use_at, degree-used, weight-used}
use Rattle.mb_problem.specs.declared.answer.Answer.{Answer}
use Rattle.mb_problem.specs.declared.kind.Cost.TheVariants.{Total}
use Rattle.gadget_tjoin.proofs.WalkParity.{walk-short}
use Rattle.conservative_paths.specs.Within.{IsPathWithin}
use Rattle.conservative_paths.proofs.ListedCounts.{listed-small, listed-weight}
use Rattle.conservative_paths.proofs.EvenSets.{between}
use Rattle.gadget_parity.specs.Copies.{copies_of, first_place, second_place, takes_first, takes_second, takes_one, ListsSingles}
use Rattle.gadget_parity.specs.Sides.{path_kind}
use Rattle.gadget_parity.proofs.Standing.{place-within}
use Rattle.gadget_parity.proofs.SideCounts.{both, kept_counts, first_counts, second_counts, between_place, between_count, sides-length, first-degree, second-degree, sides-weight, kept-none}
use Rattle.gadget_parity.proofs.SideGraph.{sides-within, sides-no_loop, graph-is}
use Rattle.gadget_parity.proofs.SideEnds.{StandBy, stand-by, by_ends, same_one, other_none}
use Rattle.gadget_parity.proofs.InTurn.{AreSides, IsOnce, side, turns-parity}

-- how often the first copy of each edge is listed, and the second one

abbrev firsts : (ℕ → Bool) → (ℕ → Bool) → Network → List ℕ → List ℕ
firsts one two i edges = first_counts one two i (times_each (sides_graph one two i) edges)

abbrev seconds : (ℕ → Bool) → (ℕ → Bool) → Network → List ℕ → List ℕ
seconds one two i edges = second_counts one two i (times_each (sides_graph one two i) edges)

if_listed : (t s : Bool) (c : ℕ) → (t ≡ true → c ≡ one_if s) → cond t c 0 ≡ one_if (t && s)
if_listed true s c h = h refl
if_listed false s c h = refl

-- their degrees: 1 together with the edge between the copies of a vertex where it stands, and 0 where it doesn't
record AreMatched (one two : ℕ → Bool) (i : Network) (xs ys : List ℕ) : Type 0 where
  between : ℕ → ℕ
  first : (v : ℕ) → 1 ≤ v → v ≤ vertices i → one v ≡ true → degree (graph_of i) xs v + between v ≡ 1
  second : (v : ℕ) → 1 ≤ v → v ≤ vertices i → two v ≡ true → degree (graph_of i) ys v + between v ≡ 1
  apart : (v : ℕ) → both one two v ≡ false → between v ≡ 0
  not_first : (v : ℕ) → one v ≡ false → degree (graph_of i) xs v ≡ 0
  not_second : (v : ℕ) → two v ≡ false → degree (graph_of i) ys v ≡ 0

module _ (one two : ℕ → Bool) (i : Network) (edges : List ℕ) (network : IsNetwork i) (list : IsPerfectList (sides_graph one two i) edges) where
  listed-once : (p : ℕ) → p < length (sides_graph one two i).edges → slice_index (times_each (sides_graph one two i) edges) p ≡ one_if (holds edges (p + 1))
  listed-once p b =
      let h = sides_graph one two i in
      times_each-at h edges p b ∙ times-holds edges (p + 1) (times-small h edges p (sides-within one two i network) (sides-no_loop one two i network) list b)

  copies-at : (there : ℕ → Bool) (place : ℕ → ℕ) (k : ℕ) → k < length i.edges → (joins there i k ≡ true → place k < length (sides_graph one two i).edges)
      → slice_index (kept_counts there i (λ j. slice_index (times_each (sides_graph one two i) edges) (place j))) k ≡ one_if (joins there i k && holds edges (place k + 1))
  copies-at there place k b room =
      tabled-at _ (length i.edges) k 0 b ∙ if_listed (joins there i k) (holds edges (place k + 1)) _ (λ on. listed-once (place k) (room on))

  firsts-at : (k : ℕ) → k < length i.edges → slice_index (firsts one two i edges) k ≡ one_if (takes_first one two i (holds edges) k)
  firsts-at k b =
      copies-at one (first_place one two i) k b (λ on. omega (arith, sum_to-grows (copies_of one two i) k (length i.edges) b, ap one_if on, sides-length one two i))

  seconds-at : (k : ℕ) → k < length i.edges → slice_index (seconds one two i edges) k ≡ one_if (takes_second one two i (holds edges) k)
  seconds-at k b =
      copies-at two (second_place one two i) k b (λ on. omega (arith, sum_to-grows (copies_of one two i) k (length i.edges) b, ap one_if on, sides-length one two i))

  are-matched : AreMatched one two i (firsts one two i edges) (seconds one two i edges)
  are-matched =
      let h = sides_graph one two i in
      let n = vertices i in
      let cs = times_each h edges in
      let size = times_each-length h edges in
      let perfect : IsPerfect h cs = perfect_from_list h edges (sides-within one two i network) (sides-no_loop one two i network) list in
      record {
        between = between_count one two i cs;
        first = λ v low high on.
            let place = place-within one 0 n v low high on in
            sym (first-degree one two i cs v network size low high on) ∙ perfect.degrees (place_in one 0 v) (omega (arith, place.0)) (omega (arith, place.1));
        second = λ v low high on.
            let place = place-within two (standing one n) n v low high on in
            sym (second-degree one two i cs v network size low high on) ∙ perfect.degrees (place_in two (standing one n) v) (omega (arith, place.0)) place.1;
        apart = λ v off. ap (λ (t : Bool). cond t (slice_index cs (between_place one two i v)) 0) off;
        not_first = kept-none one i _;
        not_second = kept-none two i _;
      }

-- the join

parity-term : (a b : Bool) (e : ℕ) → one_if (cond a (not b) b) * e % 2 ≡ (one_if a * e + one_if b * e) % 2
parity-term true true e = omega arith
parity-term true false e = omega arith
parity-term false true e = omega arith
parity-term false false e = omega arith

weight-term : (a b : Bool) (w : ℤ) → pos 0 ≤ℤ w → (pos (one_if (cond a (not b) b)) *ℤ w) ≤ℤ (pos (one_if a) *ℤ w +ℤ pos (one_if b) *ℤ w)
weight-term true true w low = omega (arith, ints, low)
weight-term true false w low = omega (arith, ints, low)
weight-term false true w low = omega (arith, ints, low)
weight-term false false w low = omega (arith, ints, low)

one-total : (a b : Bool) → cond a (not b) b ≡ true → one_if a + one_if b ≡ 1
one-total true true h = absurd (false≢true h)
one-total true false h = refl
one-total false true h = refl
one-total false false h = absurd (false≢true h)

module _ (one two : ℕ → Bool) (i : Network) (edges join : List ℕ) (network : IsNetwork i) (list : IsPerfectList (sides_graph one two i) edges)
    (singles : ListsSingles one two i edges join) where
  single-at : (k : ℕ) → k < length i.edges → slice_index (listed_counts join (length i.edges)) k ≡ one_if (takes_one one two i (holds edges) k)
  single-at k b = listed-at join (length i.edges) k 0 b ∙ ap one_if (singles.exact k b)

  single-parity : (v : ℕ) → degree (graph_of i) (listed_counts join (length i.edges)) v % 2
      ≡ (degree (graph_of i) (firsts one two i edges) v + degree (graph_of i) (seconds one two i edges) v) % 2
  single-parity v =
      let m = length i.edges in
      let js = listed_counts join m in
      let xs = firsts one two i edges in
      let ys = seconds one two i edges in
      let same = sum_to-parity (use_at i js v) (λ k. use_at i xs v k + use_at i ys v k) m
      (λ k b.
      rw (single-at k b, firsts-at one two i edges network list k b, seconds-at one two i edges network list k b)
      (parity-term (takes_first one two i (holds edges) k) (takes_second one two i (holds edges) k) (ends_at (plain (instance_edge_at i k)) v))) in
      omega (arith, same, sum_to-add (use_at i xs v) (use_at i ys v) m, degree-used i js v, degree-used i xs v, degree-used i ys v)

  -- its weight is at most that of the matching, where no edge weighs less than 0
  single-weight : HasWeightsFromZero i → weight (graph_of i) (listed_counts join (length i.edges)) ≤ℤ walk_weight (sides_graph one two i) edges
  single-weight from_zero =
      let h = sides_graph one two i in
      let m = length i.edges in
      let js = listed_counts join m in
      let xs = firsts one two i edges in
      let ys = seconds one two i edges in
      let w : ℕ → ℤ = λ k. (instance_edge_at i k).w in
      let terms = int_sum_to-le (λ k. pos (slice_index js k) *ℤ w k) (λ k. pos (slice_index xs k) *ℤ w k +ℤ pos (slice_index ys k) *ℤ w k) m
      (λ k b.
      rw (single-at k b, firsts-at one two i edges network list k b, seconds-at one two i edges network list k b)
      (weight-term (takes_first one two i (holds edges) k) (takes_second one two i (holds edges) k) (w k) (from_zero k no_instance_edge b))) in
      let parts = int_sum_to-add (λ k. pos (slice_index xs k) *ℤ w k) (λ k. pos (slice_index ys k) *ℤ w k) m in
      let whole = sides-weight one two i (times_each h edges) (times_each-length h edges) in
      omega (arith, ints, terms, parts, weight-used i js, weight-used i xs, weight-used i ys, whole, weight_of_list h edges list.numbers)

  single-once : (e : ℕ) → holds join e ≡ true → IsOnce (firsts one two i edges) (seconds one two i edges) e
  single-once e held =
      let range : (1 ≤ e) × (e ≤ length i.edges) = holds_all (λ e. (1 ≤ e) × (e ≤ length i.edges)) join e singles.in_range held in
      let k = e - 1 in
      let b : k < length i.edges = omega (arith, range.0, range.1) in
      let single : takes_one one two i (holds edges) k ≡ true = sym (singles.exact k b) ∙ ap (holds join) (let z : k + 1 ≡ e = omega (arith, range.0) in z) ∙ held in
      let total = one-total (takes_first one two i (holds edges) k) (takes_second one two i (holds edges) k) single in
      omega (arith, firsts-at one two i edges network list k b, seconds-at one two i edges network list k b, total)

pub no-negative : (i : Network) → HasWeightsFromZero i → HasNoNegativeEvenSet i
no-negative i from_zero counts even =
    let m = length i.edges in
    let w : ℕ → ℤ = λ k. (instance_edge_at i k).w in
    let terms = int_sum_to-le (λ _. pos 0) (λ k. pos (slice_index counts k) *ℤ w k) m
    (λ k b. omega (arith, ints, times-le (slice_index counts k) (pos 0) (w k) (from_zero k no_instance_edge b))) in
    omega (arith, ints, terms, int_sum_to-zero m, weight-used i counts)

-- t has no edge of the second copy where the path is odd, and none of the first where it is even
none-at : (odd : Bool) (i : Network) (s t : ℕ) (xs ys : List ℕ) → StandBy odd i s t → AreMatched (in_first odd i) (in_second odd i) i xs ys
    → degree (graph_of i) (side (not odd) xs ys) t ≡ 0
none-at true i s t xs ys by are = are.not_second t by.finish_second
none-at false i s t xs ys by are = are.not_first t by.finish_first

-- what the answer is

as-feasible : (odd : Bool) (i : Network) (answer : Answer) → IsWalkWith (IsPathOf odd i) ⊥ answer → IsFeasible (path_kind odd) i answer
as-feasible true i answer h = h
as-feasible false i answer h = h

answer-weight : (odd : Bool) (i : Network) (answer : Answer) → weight_of (path_kind odd) i answer ≡ weight_by Total i answer
answer-weight true i answer = refl
answer-weight false i answer = refl

pub answer-few : (i : Network) (s t : ℕ) (join : List ℕ) (answer : Answer) → IsNetwork i → IsWalkWith (λ start es. IsPathWithin (graph_of i) join s t start es) ⊥ answer
    → IsWalkWith (λ start es. length es ≤ length i.edges) ⊥ answer
answer-few i s t join (Counts counts) network p = absurd p
answer-few i s t join (Walk start es) network p = walk-short i s es network p.walk p.no_vertex_twice
answer-few i s t join Nothing network p = absurd p

module _ (odd : Bool) (i : Network) (edges join : List ℕ) (network : IsNetwork i) (list : IsPerfectList (gadget_graph (path_kind odd) i) edges)
    (singles : ListsSingles (in_first odd i) (in_second odd i) i edges join) where
  on_sides : IsPerfectList (sides_graph (in_first odd i) (in_second odd i) i) edges
  on_sides = subst (λ (g : Multigraph). IsPerfectList g edges) (graph-is odd i) list

  matched : AreMatched (in_first odd i) (in_second odd i) i (firsts (in_first odd i) (in_second odd i) i edges) (seconds (in_first odd i) (in_second odd i) i edges)
  matched = are-matched (in_first odd i) (in_second odd i) i edges network on_sides

  -- the degree of the join is odd exactly at the two ends
  single-odd : (s t v : ℕ) → AreEnds i s t → 1 ≤ v → v ≤ vertices i → (degree (graph_of i) (firsts (in_first odd i) (in_second odd i) i edges) v
      + degree (graph_of i) (seconds (in_first odd i) (in_second odd i) i edges) v) % 2 ≡ odd_between s t v
  single-odd s t v ends =
      let one = in_first odd i in
      let two = in_second odd i in
      let are = matched in
      let by = stand-by odd i s t ends in
      let apart : s ≢ t = λ e. omega (arith, ends.order, e) in
      let back : t ≢ s = λ e. apart (sym e) in
      by_ends (λ x. 1 ≤ x → x ≤ vertices i → (degree (graph_of i) (firsts one two i edges) x + degree (graph_of i) (seconds one two i edges) x) % 2 ≡ odd_between s t x) s t v
      (λ low high. omega (
        arith,
        are.first s low high by.start_first,
        are.apart s (and_right (one s) (two s) by.start_second),
        are.not_second s by.start_second,
        between s t s apart,
        same_one s,
        other_none t s apart,
      ))
      (λ low high. elim (cases_Bool odd) [
        | inl on ↦
            let off = by.finish_second ∙ ap not on in
            omega (
              arith,
              are.first t low high (by.finish_first ∙ on),
              are.apart t (and_right (one t) (two t) off),
              are.not_second t off,
              between s t t apart,
              same_one t,
              other_none s t back,
            )
        | inr even ↦
            let off = by.finish_first ∙ even in
            let on = by.finish_second ∙ ap not even in
            omega (arith, are.second t low high on, are.apart t (and_left (one t) (two t) off), are.not_first t off, between s t t apart, same_one t, other_none s t back)
      ])
      (λ d d' low high.
      let is = between s t v apart in
      omega (arith, are.first v low high (by.inner_first v low high d d'), are.second v low high (by.inner_second v low high d d'), is, other_none s v d, other_none t v d'))

  pub single-join : (s t : ℕ) → AreEnds i s t → ListsJoin i (odd_between s t) join
  single-join s t ends =
      let m = length i.edges in
      record {
        ascending = singles.ascending;
        in_range = subst (λ (n : ℕ). All (λ e. (1 ≤ e) × (e ≤ n)) join) (sym (edges-count i)) singles.in_range;
        join = record {
          one_each = listed-length join m;
          at_most_once = λ k d b. subst (λ (c : ℕ). c ≤ 1) (get_or_default (listed_counts join m) k 0 d b) (listed-small join m k (omega (arith, listed-length join m, b)));
          degrees = λ v low high. single-parity (in_first odd i) (in_second odd i) i edges join network on_sides singles v ∙ single-odd s t v ends low high;
        };
      }

  -- a path within it

  small-degree : (there : ℕ → Bool) (xs : List ℕ) (v : ℕ) → (there v ≡ true → degree (graph_of i) xs v ≤ 1) → (there v ≡ false → degree (graph_of i) xs v ≡ 0)
      → degree (graph_of i) xs v ≤ 1
  small-degree there xs v on off = elim (cases_Bool (there v)) [ inl h ↦ on h | inr h ↦ omega (arith, off h) ]

  single-path : (s t start : ℕ) (es : List ℕ) → AreEnds i s t → IsPathWithin (graph_of i) join s t start es → IsPathOf odd i start es
  single-path s t start es ends p =
      let one = in_first odd i in
      let two = in_second odd i in
      let xs = firsts one two i edges in
      let ys = seconds one two i edges in
      let by = stand-by odd i s t ends in
      let are = matched in
      let sides : AreSides (graph_of i) xs ys s = record {
        ends = (network-graph i network).ends;
        one_small = λ v low high. small-degree one xs v (λ on. omega (arith, are.first v low high on)) (are.not_first v);
        two_small = λ v low high. small-degree two ys v (λ on. omega (arith, are.second v low high on)) (are.not_second v);
        start = are.not_second s by.start_second;
      } in
      let once = All-weaker (λ e. holds join e ≡ true) (IsOnce xs ys) (single-once one two i edges join network on_sides singles) es p.within in
      subst (λ (v : ℕ). IsPathOf odd i v es) (sym p.starts)
      (record {
        path = record { finish = t; ends = ends; walk = p.walk; arrives = p.arrives; some = p.some; no_vertex_twice = p.no_vertex_twice };
        parity = turns-parity (graph_of i) xs ys s sides t odd (none-at odd i s t xs ys by are) es p.walk p.arrives p.some p.no_vertex_twice once;
      })

  pub answer-feasible : (s t : ℕ) (answer : Answer) → AreEnds i s t → IsWalkWith (λ start es. IsPathWithin (graph_of i) join s t start es) ⊥ answer
      → IsFeasible (path_kind odd) i answer
  answer-feasible s t (Counts counts) ends p = absurd p
  answer-feasible s t (Walk start es) ends p = as-feasible odd i (Walk start es) (single-path s t start es ends p)
  answer-feasible s t Nothing ends p = absurd p

  pub answer-weighs : (answer : Answer) → HasWeightsFromZero i → weight_by Total i answer ≤ℤ walk_weight (graph_of i) join
      → weight_of (path_kind odd) i answer ≤ℤ walk_weight (gadget_graph (path_kind odd) i) edges
  answer-weighs answer from_zero most =
      let g = graph_of i in
      let size = edges-count i in
      let numbers : All (IsEdgeNumber g) join = subst (λ (n : ℕ). All (λ e. (1 ≤ e) × (e ≤ n)) join) (sym size) singles.in_range in
      let whole : weight g (listed_counts join (length i.edges)) ≡ walk_weight g join =
      ap (λ (n : ℕ). weight g (listed_counts join n)) (sym size) ∙ listed-weight g join singles.ascending numbers in
      let least = single-weight (in_first odd i) (in_second odd i) i edges join network on_sides singles from_zero in
      omega (arith, ints, most, whole, least, answer-weight odd i answer, ap (λ (h : Multigraph). walk_weight h edges) (graph-is odd i))
