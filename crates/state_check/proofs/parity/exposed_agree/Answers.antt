use Rattle.alt_forest.proofs.Common.{true, false, refl, both_ways, state_of}
use Rattle.state_check.proofs.Parities.{agree_by, agree_even}
use Rattle.state_check.proofs.parity.exposed_agree.Goals as goal

pub returns-then-dual_sums_have : goal.returns-then-dual_sums_have
returns-then-dual_sums_have c = (
  λ _. agree_by (state_of c.args.search.now) true (c.dual_sums_have.ensures.0 c.if-dual_sums_have.true),
  λ _. refl,
)

pub returns : goal.returns
returns c = (
  λ e. agree_by (state_of c.args.search.now) false (c.dual_sums_have-2.ensures.0 e),
  λ agree. c.dual_sums_have-2.ensures.1 (agree_even (state_of c.args.search.now) agree (λ odd. both_ways c.dual_sums_have.result c.if-dual_sums_have.false (c.dual_sums_have.ensures.1 odd))),
)
