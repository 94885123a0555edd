use Rattle.mb_problem.proofs.Common.{◌≡◌, ◌+◌, ◌+ℤ◌, arith, ints, to_z, of_z, w64, int_sum_to, int_sum_to-more}
use Rattle.join_check.specs.Checks.{at}
use Rattle.join_check.proofs.Totals.{sum-small, one-small}
use Rattle.join_check.proofs.Steps.{fits-read}
use Rattle.join_check.proofs.paid.length_sum.Goals as goal

pub overflow_add-sum : goal.overflow_add-sum
overflow_add-sum c =
    let k = c.loop-length.length-index in
    let own = one-small c.args.lengths.now k c.requires c.loop-length-test.true in
    let read = fits-read (at c.args.lengths.now k) own in
    let front = sum-small c.args.lengths.now k c.requires (omega (arith, c.loop-length-test.true)) in
    omega (arith, ints, read, own.0, own.1, front.0, front.1, c.loop-length.invariant, c.loop-length.sum-is)

pub loop-length-preserved : goal.loop-length-preserved
loop-length-preserved c =
    let k = c.loop-length.length-index in
    let own = one-small c.args.lengths.now k c.requires c.loop-length-test.true in
    let read = fits-read (at c.args.lengths.now k) own in
    let front = sum-small c.args.lengths.now k c.requires (omega (arith, c.loop-length-test.true)) in
    let more = int_sum_to-more (at c.args.lengths.now) c.loop-length.length-index in
    let step : to_z w64 (of_z w64 (to_z w64 c.loop-length.sum-bits +ℤ to_z w64 (of_z w64 (at c.args.lengths.now c.loop-length.length-index))))
    ≡ int_sum_to (at c.args.lengths.now) (c.loop-length.length-index + 1) =
    omega (arith, ints, more, read, own.0, own.1, front.0, front.1, c.loop-length.invariant, c.loop-length.sum-is)
    in
    step
