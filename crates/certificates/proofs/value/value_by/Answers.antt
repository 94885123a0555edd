use Rattle.graph_theory.proofs.Common.{arith, ints}
use Rattle.certificates.proofs.value.value_by.Goals as goal

pub overflow_mul-result : goal.overflow_mul-result
overflow_mul-result c = omega (arith, ints)

pub overflow_mul-result-in-Opposite : goal.overflow_mul-result-in-Opposite
overflow_mul-result-in-Opposite c = omega (arith, ints)

pub overflow_sub-result : goal.overflow_sub-result
overflow_sub-result c = omega (arith, ints)

pub overflow_mul-result-in-BesideAll : goal.overflow_mul-result-in-BesideAll
overflow_mul-result-in-BesideAll c = omega (arith, ints)

pub overflow_mul-result-in-FourTimes : goal.overflow_mul-result-in-FourTimes
overflow_mul-result-in-FourTimes c = omega (arith, ints)

pub returns-in-Twice : goal.returns-in-Twice
returns-in-Twice c = rw c.in-Twice.is (omega (arith, ints))

pub returns-in-Opposite : goal.returns-in-Opposite
returns-in-Opposite c = rw c.in-Opposite.is (omega (arith, ints))

pub returns-in-BesideAll : goal.returns-in-BesideAll
returns-in-BesideAll c = rw c.in-BesideAll.is (omega (arith, ints))

pub returns-in-FourTimes : goal.returns-in-FourTimes
returns-in-FourTimes c = rw c.in-FourTimes.is (omega (arith, ints))
