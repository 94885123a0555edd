use Rattle.alt_forest.proofs.Common.{arith}
use Rattle.augment.proofs.flips.flip.Goals as goal

pub returns-clause-exposed : goal.returns-clause-exposed
returns-clause-exposed g c can a = rw c.clear.ensures.frame (c.exchange.ensures.exposed can a)

pub returns-clause-one : goal.returns-clause-one
returns-clause-one g c can = rw c.clear.ensures.frame (c.exchange.ensures.one can)

pub returns-clause-other : goal.returns-clause-other
returns-clause-other g c can = rw c.clear.ensures.frame (c.exchange.ensures.other can)

pub returns-clause-keeps : goal.returns-clause-keeps
returns-clause-keeps g c can a off_one off_other = rw c.clear.ensures.frame (c.exchange.ensures.keeps can a off_one off_other)

pub returns-clause-fewer : goal.returns-clause-fewer
returns-clause-fewer g c = omega (arith, c.clear.ensures.exposed, c.exchange.ensures.fewer)
