use Rattle.mb_problem.proofs.Common.{◌≡◌, ℕ, ◌-◌, ℤ, pos, ◌+ℤ◌, ◌*ℤ◌, true, ap, refl, subst, arith, ints, List, slice_index}
use Rattle.mb_problem.proofs.Common.{◌≤ℤ◌, ◌∙◌, sym}
use Rattle.join_check.specs.Forests.{magnitude}
use Rattle.join_check.specs.Checks.{at, held_by, IsLength}
use Rattle.join_check.proofs.Steps.{fits-read, weight-read}
use Rattle.join_check.proofs.wide.is_wide.Goals as goal

pub is_near-requires-clause-most : goal.is_near-requires-clause-most
is_near-requires-clause-most c = (omega (arith, ints, c.magnitude.ensures.low, c.magnitude.ensures.high), omega (arith, ints, c.magnitude.ensures.low, c.magnitude.ensures.high))

pub returns : goal.returns
returns c = λ t.
    let depths : List ℤ = c.args.depths.now in
    let nodes : List ℕ = c.args.nodes.now in
    let befores : List ℕ = c.args.befores.now in
    let meet : ℕ = c.args.meet in
    let ends = c.requires.ends in
    let u : c.number.result - 1 ≡ c.args.edge.now.u - 1 = ap (λ (x : ℕ). x - 1) c.number.ensures in
    let v : c.number-2.result - 1 ≡ c.args.edge.now.v - 1 = ap (λ (x : ℕ). x - 1) c.number-2.ensures in
    let small_u = c.requires.depths (c.args.edge.now.u - 1) (omega (arith, ends.u_low, ends.u_high)) in
    let small_v = c.requires.depths (c.args.edge.now.v - 1) (omega (arith, ends.v_low, ends.v_high)) in
    let small_top = c.requires.tops meet c.if-meet-tops.false in
    let du : at c.args.depths.now (c.number.result - 1) ≡ at c.args.depths.now (c.args.edge.now.u - 1) = ap (at c.args.depths.now) u in
    let dv : at c.args.depths.now (c.number-2.result - 1) ≡ at c.args.depths.now (c.args.edge.now.v - 1) = ap (at c.args.depths.now) v in
    let ru = fits-read (at c.args.depths.now (c.number.result - 1)) (subst (λ (x : ℕ). IsLength (at c.args.depths.now x)) (sym u) small_u) in
    let rv = fits-read (at c.args.depths.now (c.number-2.result - 1)) (subst (λ (x : ℕ). IsLength (at c.args.depths.now x)) (sym v) small_v) in
    let rt = fits-read (at c.args.tops.now c.args.meet) small_top in
    let mag : c.magnitude.result ≡ magnitude c.args.edge.now.w = c.magnitude.ensures.magnitude ∙ ap magnitude (weight-read c.args.edge.now.w c.requires.weight) in
    let low = c.magnitude.ensures.low in
    let high = c.magnitude.ensures.high in
    let apart : (at c.args.depths.now (c.args.edge.now.u - 1) +ℤ at c.args.depths.now (c.args.edge.now.v - 1)) ≤ℤ (pos 2 *ℤ at c.args.tops.now c.args.meet +ℤ pos 2 *ℤ c.magnitude.result) =
    omega (arith, ints, c.is_near.ensures.apart t, ru, rv, rt, du, dv, low, high)
    in
    let up : at c.args.depths.now (c.args.edge.now.u - 1) ≤ℤ (at c.args.depths.now (c.args.edge.now.v - 1) +ℤ pos 2 *ℤ c.magnitude.result) =
    omega (arith, ints, c.is_near.ensures.up t, ru, rv, du, dv, low, high)
    in
    let down : at c.args.depths.now (c.args.edge.now.v - 1) ≤ℤ (at c.args.depths.now (c.args.edge.now.u - 1) +ℤ pos 2 *ℤ c.magnitude.result) =
    omega (arith, ints, c.is_near.ensures.down t, ru, rv, du, dv, low, high)
    in
    record {
      node = c.if-meet-tops.false;
      held = λ some.
          let both = c.if-not-holds_both.ensures refl some in (
            subst (λ (x : ℕ). held_by c.args.befores.now c.args.meet (slice_index c.args.nodes.now x) ≡ true) u both.0,
            subst (λ (x : ℕ). held_by c.args.befores.now c.args.meet (slice_index c.args.nodes.now x) ≡ true) v both.1,
          );
      apart = omega (arith, ints, apart, mag);
      up = omega (arith, ints, up, mag);
      down = omega (arith, ints, down, mag);
    }
