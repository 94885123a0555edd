use Rattle.mb_problem.proofs.Common.{arith, ints}
use Rattle.join_check.proofs.wide.is_near.Goals as goal

pub returns-clause-apart : goal.returns-clause-apart
returns-clause-apart c = λ _. omega (
  arith,
  ints,
  c.requires.one.0,
  c.requires.one.1,
  c.requires.other.0,
  c.requires.other.1,
  c.requires.top.0,
  c.requires.top.1,
  c.requires.most.0,
  c.requires.most.1,
  c.if-one-other.false,
)

pub returns-clause-down : goal.returns-clause-down
returns-clause-down c = λ _. omega (arith, ints, c.requires.one.0, c.requires.one.1, c.requires.other.0, c.requires.other.1, c.requires.most.0, c.requires.most.1, c.if-other-one.false)
