-- What the searches find: a path where nothing is left at its end, and a circuit where the path comes back.
use Rattle.mb_problem.proofs.Common.{◌≡◌, ◌≢◌, ℕ, ◌+◌, ◌-◌, ◌<◌, ◌≤◌, pos, ◌+ℤ◌, ◌<ℤ◌, cond, eqb, refl, ap, sym, ◌∙◌, subst, inl, inr, true}
use Rattle.mb_problem.proofs.Common.{arith, List, [], length, slice_index, take, drop, take-append-drop, All, ints, cases_Bool, cases_lt, Multigraph, IsEdgeNumber, weight, CountsNoneAt}
use Rattle.mb_problem.proofs.Common.{edge_of, touches, All-get_or, holds, walk_left, walk_weight, AllDiffer, holds_place, walk-numbers, Network, graph_of, odd_at, ListsJoin, listed_counts}
use Rattle.mb_problem.proofs.Common.{edges-count, listed-at}
use Rattle.std.proofs.Common.{length-drop}
use Rattle.mb_problem.specs.declared.answer.Parity.TheVariants.{Empty}
use Rattle.conservative_paths.specs.declared.trail.Trail.{Trail}
use Rattle.conservative_paths.specs.Within.{IsPathWithin, IsNegativeCircuitWithin}
use Rattle.conservative_paths.specs.Trails.{IsOpen, IsClosed, IsNegativeEven, IsDrained, IsNegativeOver}
use Rattle.conservative_paths.proofs.ListedCounts.{listed-small, listed-weight, within-listed}
use Rattle.conservative_paths.proofs.Ways.{way-circuit, way-within, stuck_at_target, apart-some, home-none}
use Rattle.conservative_paths.proofs.Weights.{weight-none}
use Rattle.conservative_paths.proofs.Steps.{places-differ, closed-below, closed-home, closed-parts}

-- a walk of no edges over a set

pub join-even : (i : Network) (join : List ℕ) → ListsJoin i (odd_at Empty i) join → walk_weight (graph_of i) join <ℤ pos 0
    → IsNegativeEven (graph_of i) (listed_counts join (length i.edges))
join-even i join lists negative =
    let g = graph_of i in
    let size = edges-count i in
    let whole : weight g (listed_counts join (length i.edges)) ≡ walk_weight g join =
    ap (λ (n : ℕ). weight g (listed_counts join n)) (sym size) ∙ listed-weight g join lists.ascending lists.in_range in
    record {
      value_limit = λ k b. listed-small join (length i.edges) k (omega (arith, size, b));
      even = λ v low high. lists.join.degrees v low high;
      negative = omega (arith, ints, negative, whole);
    }

-- at its end a path between the two odd vertices has come to the other one

pub path-found : (i : Network) (s t : ℕ) (join left : List ℕ) (trail : Trail) → s ≢ t → IsOpen (graph_of i) (listed_counts join (length i.edges)) left s t trail
    → CountsNoneAt (graph_of i) left trail.here → IsPathWithin (graph_of i) join s t s trail.edges.items
path-found i s t join left trail apart r settled =
    let g = graph_of i in
    let way = r.trail.way in
    let arrives = way.ends ∙ stuck_at_target g (listed_counts join (length i.edges)) left s t trail.here trail.edges.items way r.trail.within settled in
    record {
      starts = refl;
      walk = way.walk;
      arrives = arrives;
      some = apart-some g s t trail.edges.items apart arrives;
      no_vertex_twice = subst AllDiffer r.vertices (places-differ trail.place.items trail.vertices.items r.trail.places);
      within = within-listed g join trail.edges.items (length i.edges) (sym (edges-count i)) (walk-numbers g s trail.edges.items way.walk)
          (λ k b. let s = way.shared k b in omega (arith, s));
    }

-- a circuit

pub circuit-found : (g : Multigraph) (total left : List ℕ) (base target place : ℕ) (t : Trail)
    → ((k : ℕ) → k < length g.edges → slice_index total k ≤ 1) → IsClosed g total left base target place t → walk_weight g (drop place t.edges.items) <ℤ pos 0
    → IsNegativeOver g total t.here (drop place t.edges.items)
circuit-found g total left base target place t small r negative =
    let front = take place t.edges.items in
    let rest = drop place t.edges.items in
    let parts = closed-parts g total left base target place t r in
    let home = closed-home g total left base target place t r in
    let D : List ℕ → Type 0 = λ es. AllDiffer (walk_left g base es) in
    let differ : AllDiffer (walk_left g base t.edges.items) = subst AllDiffer r.vertices (places-differ t.place.items t.vertices.items r.trail.places) in
    record {
      circuit = way-circuit g total left base target t.here front rest small parts (subst D (sym (take-append-drop place t.edges.items)) differ) home
          (omega (arith, closed-below g total left base target place t r, length-drop place t.edges.items));
      within = way-within g total left base target t.here front rest parts;
      negative = negative;
    }

pub circuit-within : (i : Network) (join counts : List ℕ) (start : ℕ) (edges : List ℕ)
    → ((k : ℕ) → k < length i.edges → slice_index counts k ≤ slice_index (listed_counts join (length i.edges)) k) → IsNegativeOver (graph_of i) counts start edges
    → IsNegativeCircuitWithin (graph_of i) join start edges
circuit-within i join counts start edges fewer is =
    let g = graph_of i in
    let size = edges-count i in
    record {
      circuit = is.circuit;
      within = within-listed g join edges (length i.edges) (sym size) (walk-numbers g start edges is.circuit.walk)
          (λ k b. let w = is.within k b in let f = fewer k (omega (arith, size, b)) in omega (arith, w, f));
      negative = is.negative;
    }

-- a path that is stuck at its start is empty, and what is left is even and weighs less than 0

pub drained : (g : Multigraph) (total left : List ℕ) (base : ℕ) (t : Trail) → IsNegativeEven g total → IsOpen g total left base base t
    → (weight g left +ℤ walk_weight g t.edges.items) <ℤ pos 0 → CountsNoneAt g left t.here → IsDrained g base total left
drained g total left base t even r less settled =
    let way = r.trail.way in
    let home = stuck_at_target g total left base base t.here t.edges.items way r.trail.within settled in
    let none : t.edges.items ≡ [] = home-none g base t.edges.items (subst AllDiffer r.vertices (places-differ t.place.items t.vertices.items r.trail.places)) (way.ends ∙ home) in
    let L : List ℕ → Type 0 = λ xs. (weight g left +ℤ walk_weight g xs) <ℤ pos 0 in
    let S : ℕ → Type 0 = CountsNoneAt g left in
    record {
      even = record {
        value_limit = λ k b. let s = way.shared k b in let m = even.value_limit k b in omega (arith, s, m);
        even = λ v low high.
            let same : cond {A = ℕ} (eqb t.here v) 1 0 ≡ cond {A = ℕ} (eqb base v) 1 0 = ap (λ (x : ℕ). cond {A = ℕ} (eqb x v) 1 0) home in
            omega (arith, way.parity v low high, same);
        negative = omega (arith, ints, subst L none less);
      };
      settled = subst S home settled;
      fewer = λ k b. let s = way.shared k b in omega (arith, s);
    }

-- where none of the edges of a set is left nothing is

-- where nothing is left at an end of the next edge of the list either, the counts of one edge more are 0
pub one-more-gone : (g : Multigraph) (join old new : List ℕ) (base n : ℕ) → All (IsEdgeNumber g) join → IsDrained g base old new → n < length join
    → touches (edge_of g (slice_index join n)) base ≡ true
    → ((j : ℕ) → j < n → slice_index old (slice_index join j - 1) ≡ 0) → (j : ℕ) → j < n + 1 → slice_index new (slice_index join j - 1) ≡ 0
one-more-gone g join old new base n numbers drained there touched none j b =
    let number : IsEdgeNumber g (slice_index join j) = All-get_or (IsEdgeNumber g) join j 0 (omega (arith, b, there)) numbers in
    let inside : slice_index join j - 1 < length g.edges = omega (arith, number.0, number.1) in
    elim (cases_lt j n) [
      | inl before ↦ let was = none j before in let most = drained.fewer (slice_index join j - 1) inside in omega (arith, was, most)
      | inr past ↦
          let same : n ≡ j = omega (arith, past, b) in
          drained.settled (slice_index join j - 1) inside (subst (λ (k : ℕ). touches (edge_of g (slice_index join k)) base ≡ true) same touched)
    ]

pub all-gone : (i : Network) (join left : List ℕ) → ((k : ℕ) → k < length i.edges → slice_index left k ≤ slice_index (listed_counts join (length i.edges)) k)
    → ((j : ℕ) → j < length join → slice_index left (slice_index join j - 1) ≡ 0) → weight (graph_of i) left ≡ pos 0
all-gone i join left fewer none =
    let size = edges-count i in
    weight-none (graph_of i) left (λ k b. elim (cases_Bool (holds join (k + 1))) [
      | inl on ↦
          let place = holds_place join (k + 1) on in
          let at : slice_index left (slice_index join place.0 - 1) ≡ slice_index left k =
          ap (slice_index left) (let is = place.2 in let z : slice_index join place.0 - 1 ≡ k = omega (arith, is) in z) in
          sym at ∙ none place.0 place.1
      | inr off ↦
          let below : k < length i.edges = omega (arith, size, b) in
          let zero : cond {A = ℕ} (holds join (k + 1)) 1 0 ≡ 0 = ap (λ t. cond {A = ℕ} t 1 0) off in
          omega (arith, fewer k below, listed-at join (length i.edges) k 0 below, zero)
    ])
