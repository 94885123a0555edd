use Rattle.certificates.proofs.ProvedTruth.{proved_true}
use Rattle.certificates.proofs.law.laws.Goals as goal

pub returns : goal.returns
returns c = record { proved = proved_true c.laws.ensures.paths c.laws.ensures.loops }
