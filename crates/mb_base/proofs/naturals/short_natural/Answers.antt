use Rattle.std.proofs.Common.{◌≤◌, ◌<◌, arith}
use Rattle.mb_base.proofs.NumberLemmas.{few_digits}
use Rattle.mb_base.proofs.naturals.short_natural.Goals as goal

pub overflow_mul-value : goal.overflow_mul-value
overflow_mul-value c =
    let few : c.loop-b.b-index ≤ 18 = omega arith in
    let small : c.loop-b.value < 1000000000000000000 = few_digits c.loop-b.b-index c.loop-b.value few c.loop-b.invariant.value_limit in
    omega (arith, small)

pub overflow_add-value : goal.overflow_add-value
overflow_add-value c =
    let few : c.loop-b.b-index ≤ 18 = omega arith in
    let small : c.loop-b.value < 1000000000000000000 = few_digits c.loop-b.b-index c.loop-b.value few c.loop-b.invariant.value_limit in
    omega (arith, small, c.from.ensures)
