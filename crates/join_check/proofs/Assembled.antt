-- What the passes of a check find, put together: a list of edges is a join, and none weighs less.
use Rattle.mb_problem.proofs.Common.{◌≡◌, ℕ, ◌+◌, ◌-◌, ◌%◌, ◌<◌, ◌≤◌, ℤ, Bool, false, eqb, ap, sym, ◌∙◌, subst, arith, List, length, slice_index, slice_index_or, All, IsStrictlyIncreasing}
use Rattle.mb_problem.proofs.Common.{get_or_default, degree, edge_at, edge_at-within, Network, IsNetwork, graph_of, vertices, odd_at, edges-count, network-graph, ListsJoin}
use Rattle.mb_problem.proofs.Common.{listed_counts, listed-length, listed-at, test-small, holds}
use Rattle.mb_problem.specs.declared.answer.Parity.{Parity}
use Rattle.mb_problem.specs.Degrees.{AreDegrees}
use Rattle.join_check.specs.declared.levels.Levels.{Levels}
use Rattle.join_check.specs.Forests.{turned_ends, IsPaid, meet_at}
use Rattle.join_check.specs.Least.{IsLeastJoin}
use Rattle.join_check.specs.Checks.{at, AreFlags, ArePlaced, AreWide, AreTops, AreDepths, IsWideBy, HasPlace, HasShape, HoldOdd, IsSmallForest}
use Rattle.join_check.proofs.Listed.{in-graph}
use Rattle.join_check.proofs.LevelFacts.{forest-of, placed-of, odd-of, wide-of}
use Rattle.join_check.proofs.Leasts.{least-join}

pub join-of : (i : Network) (odd : ℕ → ℕ) (es ds odds : List ℕ) (m : ℕ) → IsStrictlyIncreasing es → All (λ e. (1 ≤ e) × (e ≤ m)) es → m ≡ length i.edges
    → AreDegrees i (listed_counts es m) ds
    → ((j : ℕ) → j < length ds → slice_index ds j % 2 ≡ slice_index odds j) → ((j : ℕ) → j < vertices i → slice_index odds j ≡ odd (j + 1)) → ListsJoin i odd es
join-of i odd es ds odds m ascending range count are have each =
    let few : ℕ → Type 0 = λ x. x ≤ 1 in
    record {
      ascending = ascending;
      in_range = in-graph i es m count range;
      join = record {
        one_each = listed-length es (length i.edges);
        at_most_once = λ k d b. subst few (get_or_default (listed_counts es (length i.edges)) k 0 d b)
            (let is = listed-at es (length i.edges) k 0 (omega (arith, b, listed-length es (length i.edges))) in omega (arith, is, test-small (holds es (k + 1))));
        degrees = λ v low high.
            let back : v - 1 + 1 ≡ v = omega (arith, low) in
            let below : v - 1 < vertices i = omega (arith, low, high) in
            let counts = ap (λ (x : ℕ). degree (graph_of i) (listed_counts es x) v % 2) (sym count) in
            counts ∙ ap (λ (x : ℕ). degree (graph_of i) (listed_counts es m) x % 2) (sym back) ∙ ap (λ (x : ℕ). x % 2) (sym (are.each (v - 1) below))
            ∙ have (v - 1) (omega (arith, below, are.one_each)) ∙ each (v - 1) below ∙ ap odd back;
      };
    }

flags-same : (i : Network) (one two : ℕ → ℕ) (flags : List Bool) → ((j : ℕ) → j < vertices i → one (j + 1) ≡ two (j + 1)) → AreFlags i one flags → AreFlags i two flags
flags-same i one two flags same are = record {
  one_each = are.one_each;
  each = λ j b. are.each j b ∙ ap (λ (o : ℕ). eqb ((o + turned_ends i (j + 1)) % 2) 1) (same j b);
}

-- the lists of a check are those of the forest
pub placed-by : (f : Levels) (ls : List ℤ) (bs ns : List ℕ) (hs : List ℤ) (flags : List Bool) → ls ≡ f.lengths → bs ≡ f.befores → ns ≡ f.nodes → hs ≡ f.heights
    → ((j : ℕ) → j < length ns → HasPlace ls (slice_index ns j) (at hs j) (slice_index_or flags j false)) → HoldOdd ls bs ns flags → ArePlaced f flags
placed-by f ls bs ns hs flags el eb en eh places odd = record {
  places = subst (λ (xs : List ℤ). (j : ℕ) → j < length f.nodes → HasPlace f.lengths (slice_index f.nodes j) (at xs j) (slice_index_or flags j false)) eh
      (subst (λ (xs : List ℕ). (j : ℕ) → j < length xs → HasPlace f.lengths (slice_index xs j) (at hs j) (slice_index_or flags j false)) en
      (subst (λ (xs : List ℤ). (j : ℕ) → j < length ns → HasPlace xs (slice_index ns j) (at hs j) (slice_index_or flags j false)) el places));
  odd = subst (λ (xs : List ℕ). HoldOdd f.lengths f.befores xs flags) en (subst (λ (xs : List ℕ). HoldOdd f.lengths xs ns flags) eb (subst (λ (xs : List ℤ). HoldOdd xs bs ns flags) el odd));
}

pub wide-by : (i : Network) (f : Levels) (ls : List ℤ) (bs ns : List ℕ) (hs : List ℤ) (ms : List ℕ) (tops depths : List ℤ) → ls ≡ f.lengths → bs ≡ f.befores → ns ≡ f.nodes → hs ≡ f.heights
    → ms ≡ f.meets → AreTops ls bs tops → AreDepths ls tops ns hs depths
    → ((k : ℕ) → k < length i.edges → IsWideBy tops bs ns depths (edge_at (graph_of i) k) (slice_index ms k)) → AreWide i f
wide-by i f ls bs ns hs ms tops depths el eb en eh em are_tops are_depths wide = record {
  tops = tops;
  depths = depths;
  are_tops = subst (λ (xs : List ℕ). AreTops f.lengths xs tops) eb (subst (λ (xs : List ℤ). AreTops xs bs tops) el are_tops);
  are_depths = subst (λ (xs : List ℤ). AreDepths f.lengths tops f.nodes xs depths) eh
      (subst (λ (xs : List ℕ). AreDepths f.lengths tops xs hs depths) en (subst (λ (xs : List ℤ). AreDepths xs tops ns hs depths) el are_depths));
  wide = subst (λ (xs : List ℕ). (k : ℕ) → k < length i.edges → IsWideBy tops f.befores f.nodes depths (edge_at (graph_of i) k) (slice_index xs k)) em
      (subst (λ (xs : List ℕ). (k : ℕ) → k < length i.edges → IsWideBy tops f.befores xs depths (edge_at (graph_of i) k) (slice_index ms k)) en
      (subst (λ (xs : List ℕ). (k : ℕ) → k < length i.edges → IsWideBy tops xs ns depths (edge_at (graph_of i) k) (slice_index ms k)) eb wide));
}

pub least-by : (parity : Parity) (i : Network) (es : List ℕ) (f : Levels) (odds : List ℕ) (flags : List Bool) → IsNetwork i → HasShape i f → IsSmallForest f
    → ListsJoin i (odd_at parity i) es → IsPaid i es f → ((j : ℕ) → j < vertices i → slice_index odds j ≡ odd_at parity i (j + 1)) → AreFlags i (λ v. slice_index odds (v - 1)) flags
    → ArePlaced f flags → AreWide i f → IsLeastJoin parity i es
least-by parity i es f odds flags network shape small join paid each marked places ways =
    let odd : ℕ → ℕ = odd_at parity i in
    let forest = forest-of f small in
    let are = flags-same i (λ v. slice_index odds (v - 1)) odd flags (λ j b. ap (slice_index odds) (let back : j + 1 - 1 ≡ j = omega arith in back) ∙ each j b) marked in
    let placed = placed-of i odd f flags shape.nodes are places.places in
    let size : length (graph_of i).edges ≡ length i.edges = edges-count i in
    least-join parity i es f network (record {
      join = join;
      forest = forest;
      placed = placed;
      odd = odd-of i odd f flags shape.nodes are places.odd;
      wide = λ k b. wide-of i odd f ways.tops ways.depths (edge_at (graph_of i) k) (meet_at f k) forest placed ways.are_tops ways.are_depths shape.nodes
          (edge_at-within (graph_of i) k (network-graph i network).ends (omega (arith, b, size))) (ways.wide k b);
      paid = paid;
    })
