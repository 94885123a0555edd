-- The edges of a path in turn are such counts.
use Rattle.mb_problem.proofs.Common.{◌≡◌, ◌≢◌, ℕ, ◌+◌, ◌≤◌, pos, ◌*ℤ◌, ◌≤ℤ◌, Bool, true, false, not, cond, eqb, refl, ap, sym, ◌∙◌, arith, List}
use Rattle.mb_problem.proofs.Common.{ints, IsEdgeNumber, degree, weight, IsPerfect, holds, walk_end, walk_vertices, walk_weight, one_if-most, walk-numbers, Network, IsNetwork, vertices}
use Rattle.mb_problem.proofs.Common.{graph_of, IsPathOf, in_first, in_second, network-graph, edges-count, one_if}
use Rattle.mb_problem.specs.declared.answer.Answer.TheVariants.{Counts, Walk, Nothing}
use Rattle.gadget_base.proofs.Common.{sides_graph, ReachesAll, times_each, times_each-length, times_each-ends, weight_of_list}
use Rattle.gadget_parity.specs.Sides.{path_kind}
use Rattle.gadget_parity.proofs.SideEnds.{StandBy, stand-by, by_ends, same_one, other_none}
use Rattle.gadget_parity.proofs.Turns.{in_turn, missed, turn-weight, turn-all, turn-meets, turned-odd}
use Rattle.gadget_parity.proofs.Reached.{AreTurns, turn_counts, turns-perfect, turns-weight}

-- the ends that the edges of a turn miss are those that don't stand in its copy

stays : (t s : Bool) → t ≡ s → cond {A = ℕ} t 0 1 ≡ cond s 0 1
stays t s e = ap (λ (b : Bool). cond {A = ℕ} b 0 1) e

module _ (i : Network) (s t v : ℕ) (apart : s ≢ t) (low : 1 ≤ v) (high : v ≤ vertices i) where
  first-misses : (odd : Bool) → StandBy odd i s t → cond odd 0 (one_if (eqb t v)) ≡ cond (in_first odd i v) 0 1
  first-misses true by = refl
  first-misses false by =
      by_ends (λ x. one_if (eqb t x) ≡ cond (in_first false i x) 0 1) s t v (other_none t s apart ∙ sym (stays _ true by.start_first))
      (same_one t ∙ sym (stays _ false by.finish_first)) (λ d d'. other_none t v d' ∙ sym (stays _ true (by.inner_first v low high d d')))

  second-misses : (odd : Bool) → StandBy odd i s t → one_if (eqb s v) + cond odd (one_if (eqb t v)) 0 ≡ cond (in_second odd i v) 0 1
  second-misses true by =
      by_ends (λ x. one_if (eqb s x) + one_if (eqb t x) ≡ cond (in_second true i x) 0 1) s t v (omega (arith, same_one s, other_none t s apart, stays _ false by.start_second))
      (omega (arith, other_none s t (λ e. apart (sym e)), same_one t, stays _ false by.finish_second))
      (λ d d'. omega (arith, other_none s v d, other_none t v d', stays _ true (by.inner_second v low high d d')))
  second-misses false by =
      by_ends (λ x. one_if (eqb s x) + 0 ≡ cond (in_second false i x) 0 1) s t v (omega (arith, same_one s, stays _ false by.start_second))
      (omega (arith, other_none s t (λ e. apart (sym e)), stays _ true by.finish_second))
      (λ d d'. omega (arith, other_none s v d, stays _ true (by.inner_second v low high d d')))

turn_first : (odd : Bool) (c : ℕ) → cond (cond odd false true) c 0 ≡ cond odd 0 c
turn_first true c = refl
turn_first false c = refl

turn_second : (odd : Bool) (c : ℕ) → cond (cond odd true false) c 0 ≡ cond odd c 0
turn_second true c = refl
turn_second false c = refl

path-turns : (odd : Bool) (i : Network) (start : ℕ) (es : List ℕ) → IsNetwork i → IsPathOf odd i start es
    → AreTurns (in_first odd i) (in_second odd i) i (times_each (graph_of i) (in_turn true es)) (times_each (graph_of i) (in_turn false es))
    (λ v. one_if (holds (walk_vertices (graph_of i) start es) v))
path-turns odd i start es network is =
    let g = graph_of i in
    let path = is.path in
    let t = path.finish in
    let ends = (network-graph i network).ends in
    let by = stand-by odd i start t path.ends in
    let order = path.ends.order in
    let apart : start ≢ t = λ e. omega (arith, e, order) in
    let numbers = walk-numbers g start es path.walk in
    let counted : (on : Bool) (v : ℕ) → degree g (times_each g (in_turn on es)) v + missed g start on es v ≡ one_if (holds (walk_vertices g start es) v) = λ on v.
    ap (λ (d : ℕ). d + missed g start on es v) (times_each-ends g (in_turn on es) v (turn-all (IsEdgeNumber g) on es numbers))
    ∙ turn-meets g start on es v ends path.walk path.no_vertex_twice in
    let missing : (on : Bool) (v : ℕ) → missed g start on es v ≡ cond on 0 (one_if (eqb start v)) + cond (cond odd (not on) on) (one_if (eqb t v)) 0 = λ on v.
    ap (λ (b : Bool). cond on 0 (one_if (eqb start v)) + cond b (one_if (eqb (walk_end g start es) v)) 0) (turned-odd on es ∙ ap (λ (b : Bool). cond b (not on) on) is.parity)
    ∙ ap (λ (x : ℕ). cond on 0 (one_if (eqb start v)) + cond (cond odd (not on) on) (one_if (eqb x v)) 0) path.arrives in
    record {
      first_each = times_each-length g (in_turn true es) ∙ edges-count i;
      second_each = times_each-length g (in_turn false es) ∙ edges-count i;
      value_limit = λ v. one_if-most (holds (walk_vertices g start es) v);
      first = λ v low high. omega (arith, counted true v, missing true v, first-misses i start t v apart low high odd by, turn_first odd (one_if (eqb t v)));
      second = λ v low high. omega (arith, counted false v, missing false v, second-misses i start t v apart low high odd by, turn_second odd (one_if (eqb t v)));
    }

-- twice the weight of the perfect matching is the value beside the path

path-reached : (odd : Bool) (i : Network) (start : ℕ) (es : List ℕ) → IsNetwork i → IsPathOf odd i start es
    → (counts : List ℕ) × IsPerfect (sides_graph (in_first odd i) (in_second odd i) i) counts
    × ((pos 2 *ℤ weight (sides_graph (in_first odd i) (in_second odd i) i) counts) ≤ℤ (pos 2 *ℤ walk_weight (graph_of i) es))
path-reached odd i start es network is =
    let g = graph_of i in
    let one = in_first odd i in
    let two = in_second odd i in
    let x = times_each g (in_turn true es) in
    let y = times_each g (in_turn false es) in
    let h : ℕ → ℕ = λ v. one_if (holds (walk_vertices g start es) v) in
    let numbers = walk-numbers g start es is.path.walk in
    let are = path-turns odd i start es network is in
    let first = weight_of_list g (in_turn true es) (turn-all (IsEdgeNumber g) true es numbers) in
    let second = weight_of_list g (in_turn false es) (turn-all (IsEdgeNumber g) false es numbers) in
    let weighs : (pos 2 *ℤ weight (sides_graph one two i) (turn_counts one two i x y h)) ≤ℤ (pos 2 *ℤ walk_weight g es) =
    omega (arith, ints, turns-weight one two i x y h network are, first, second, turn-weight g true es) in
    (turn_counts one two i x y h, turns-perfect one two i x y h network are, weighs)

pub reaches_paths : (odd : Bool) (i : Network) → IsNetwork i → ReachesAll (path_kind odd) i
reaches_paths true i network (Counts counts) none = absurd none
reaches_paths true i network (Walk start es) is = let r = path-reached true i start es network is in record { counts = r.0; perfect = r.1; weighs = r.2 }
reaches_paths true i network Nothing none = absurd none
reaches_paths false i network (Counts counts) none = absurd none
reaches_paths false i network (Walk start es) is = let r = path-reached false i start es network is in record { counts = r.0; perfect = r.1; weighs = r.2 }
reaches_paths false i network Nothing none = absurd none
