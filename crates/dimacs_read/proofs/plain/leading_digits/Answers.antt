use Rattle.graph_theory.proofs.Common.{◌≡◌, ◌≤◌, ◌<◌, true, length, get_or, arith, nat_tests}
use Rattle.mb_base.specs.Text.{is_digit}
use Rattle.mb_base.proofs.NumberLemmas.{few_digits}
use Rattle.dimacs_read.proofs.PlainLemmas.{value_more, digits_more, small_more}
use Rattle.dimacs_read.proofs.plain.leading_digits.Goals as goal

pub overflow_mul-value : goal.overflow_mul-value
overflow_mul-value c =
    let few : c.digits.count ≤ 18 = omega arith in
    let small : c.digits.value < 1000000000000000000 = few_digits c.digits.count c.digits.value few c.digits.invariant.value_limit in
    omega (arith, small)

pub overflow_add-value : goal.overflow_add-value
overflow_add-value c =
    let few : c.digits.count ≤ 18 = omega arith in
    let small : c.digits.value < 1000000000000000000 = few_digits c.digits.count c.digits.value few c.digits.invariant.value_limit in
    omega (arith, small, c.from.ensures)

pub digits-preserved : goal.digits-preserved
digits-preserved c =
    let bytes = c.args.bytes.now in
    let lt : c.digits.count < length bytes = omega arith in
    let here : is_digit (get_or bytes c.digits.count 0) ≡ true = grind (arith, nat_tests) in
    let low : c.from.result ≤ 9 = grind (arith, nat_tests) in
    record {
      size_limit = omega arith;
      digits = digits_more bytes c.digits.count lt here c.digits.invariant.digits;
      value = omega (arith, value_more bytes c.digits.count lt, c.digits.invariant.value, c.from.ensures);
      value_limit = small_more c.digits.count c.digits.value c.from.result c.digits.invariant.value_limit low;
    }
