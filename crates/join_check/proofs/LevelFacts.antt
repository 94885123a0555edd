-- What the lists of a check say of the forest that they are read from.
use Rattle.mb_problem.proofs.Common.{◌≡◌, ◌≢◌, ℕ, ◌+◌, ◌-◌, ◌%◌, ◌<◌, ◌≤◌, ℤ, pos, nat_abs, ◌+ℤ◌, ◌-ℤ◌, Bool, false, ◌&&◌, cond, eqb, ap, sym, ◌∙◌, arith, ints, List, length}
use Rattle.mb_problem.proofs.Common.{slice_index, slice_index_or, eq-eqb, false≢true, sum_to, sum_to-same, Edge, IsEdgeWithin, Network, vertices}
use Rattle.graph_theory.proofs.Common.{ap₂}
use Rattle.join_check.specs.declared.levels.Levels.{Levels}
use Rattle.join_check.specs.Forests.{node_count, length_of, before_of, node_of, height_of, depth, top_of, holds_node, turned_odd, odd_held, IsForest, IsPlaced, IsWide}
use Rattle.join_check.specs.Checks.{at, AreTops, HasPlace, AreFlags, HoldOdd, held_by, AreDepths, IsWideBy, IsSmallForest}
use Rattle.join_check.proofs.Nodes.{depth-top}
use Rattle.join_check.proofs.Turned.{nat_abs-is}
use Rattle.join_check.proofs.Leasts.{len_of, high_at, are-nodes, depth-is, top-is}

pub forest-of : (f : Levels) → IsSmallForest f → IsForest f
forest-of f small =
    let size : length f.befores ≡ length f.lengths = small.one_each in
    record {
      outside = small.lengths.outside;
      from_zero = small.lengths.from_zero;
      earlier = λ x low b. small.postorder.earlier x low (omega (arith, size, b));
      nested = λ x y less b h. small.postorder.nested x y less (omega (arith, size, b)) h;
    }

pub place-even : (lengths : List ℤ) (node : ℕ) (height : ℤ) (odd : Bool) → HasPlace lengths node height odd → HasPlace lengths node height false
place-even lengths node height odd place = record { inside = place.inside; low = place.low; high = place.high; tops = λ e. absurd (false≢true e) }

pub placed-of : (i : Network) (odd : ℕ → ℕ) (f : Levels) (flags : List Bool) → length f.nodes ≡ vertices i → AreFlags i odd flags
    → ((j : ℕ) → j < length f.nodes → HasPlace f.lengths (slice_index f.nodes j) (at f.heights j) (slice_index_or flags j false)) → (v : ℕ) → 1 ≤ v → v ≤ vertices i → IsPlaced i odd f v
placed-of i odd f flags size are places v low high =
    let below : v - 1 < vertices i = omega arith in
    let place = places (v - 1) (omega (arith, size, below)) in
    let back : v - 1 + 1 ≡ v = omega arith in
    let flag : slice_index_or flags (v - 1) false ≡ eqb (turned_odd i odd v) 1 = are.each (v - 1) below ∙ ap (λ (w : ℕ). eqb (turned_odd i odd w) 1) back in
    record { node = place.inside; low = place.low; high = place.high; tops = λ one. place.tops (flag ∙ eq-eqb (turned_odd i odd v) 1 one) }

pub odd-of : (i : Network) (odd : ℕ → ℕ) (f : Levels) (flags : List Bool) → length f.nodes ≡ vertices i → AreFlags i odd flags → HoldOdd f.lengths f.befores f.nodes flags → (b : ℕ)
    → b < node_count f → length_of f b ≢ pos 0 → odd_held i odd f b % 2 ≡ 1
odd-of i odd f flags size are holds b inside some =
    let flag : ℕ → ℕ = λ j. cond (slice_index_or flags j false && held_by f.befores b (slice_index f.nodes j)) 1 0 in
    let same = sum_to-same (λ j. cond (eqb (turned_odd i odd (j + 1)) 1 && holds_node f b (node_of f (j + 1))) 1 0) flag (vertices i)
    (λ j below.
    let back : j + 1 - 1 ≡ j = omega arith in
    ap₂ (λ (t : Bool) (p : ℕ). cond {A = ℕ} (t && holds_node f b (slice_index f.nodes p)) 1 0) (sym (are.each j below)) back) in
    ap (λ (x : ℕ). x % 2) (same ∙ ap (sum_to flag) (sym size)) ∙ holds b inside some

depth-of : (i : Network) (odd : ℕ → ℕ) (f : Levels) (v : ℕ) → IsForest f → IsPlaced i odd f v → depth f v +ℤ length_of f (node_of f v) ≡ top_of f (node_of f v) +ℤ height_of f v
depth-of i odd f v forest place =
    let deep = depth-is f v forest place.low in
    let top = top-is f (node_of f v) forest in
    let both = depth-top (before_of f) (len_of f) (node_count f) (node_of f v) (high_at f v) (are-nodes f forest) (ap nat_abs forest.outside) place.node in
    let height = nat_abs-is (height_of f v) place.low in
    let long = nat_abs-is (length_of f (node_of f v)) (forest.from_zero (node_of f v) place.node) in
    omega (arith, ints, deep, top, both, height, long)

depth-at : (i : Network) (odd : ℕ → ℕ) (f : Levels) (tops depths : List ℤ) (v : ℕ) → IsForest f → IsPlaced i odd f v → AreTops f.lengths f.befores tops
    → AreDepths f.lengths tops f.nodes f.heights depths → v - 1 < length f.nodes → at depths (v - 1) ≡ depth f v
depth-at i odd f tops depths v forest place are deep below =
    let here : at depths (v - 1) ≡ at tops (node_of f v) -ℤ length_of f (node_of f v) +ℤ height_of f v = deep.each (v - 1) below in
    let top : at tops (node_of f v) ≡ top_of f (node_of f v) = are.each (node_of f v) place.node in
    omega (arith, ints, here, top, depth-of i odd f v forest place)

pub wide-of : (i : Network) (odd : ℕ → ℕ) (f : Levels) (tops depths : List ℤ) (e : Edge) (a : ℕ) → IsForest f → ((v : ℕ) → 1 ≤ v → v ≤ vertices i → IsPlaced i odd f v)
    → AreTops f.lengths f.befores tops → AreDepths f.lengths tops f.nodes f.heights depths → length f.nodes ≡ vertices i → IsEdgeWithin (vertices i) e
    → IsWideBy tops f.befores f.nodes depths e a → IsWide f e a
wide-of i odd f tops depths e a forest placed are deep size ends wide =
    let u_low : 1 ≤ e.u = ends.u_low in
    let u_high : e.u ≤ vertices i = ends.u_high in
    let v_low : 1 ≤ e.v = ends.v_low in
    let v_high : e.v ≤ vertices i = ends.v_high in
    let du = depth-at i odd f tops depths e.u forest (placed e.u u_low u_high) are deep (omega (arith, size, u_low, u_high)) in
    let dv = depth-at i odd f tops depths e.v forest (placed e.v v_low v_high) are deep (omega (arith, size, v_low, v_high)) in
    let inside : a < length f.lengths = omega (arith, wide.node, are.one_each) in
    let top : at tops a ≡ top_of f a = are.each a inside in
    record {
      node = inside;
      held = wide.held;
      apart = omega (arith, ints, wide.apart, du, dv, top);
      up = omega (arith, ints, wide.up, du, dv);
      down = omega (arith, ints, wide.down, du, dv);
    }
