use Rattle.join_check.proofs.Leasts.{least-join}
use Rattle.join_check.proofs.law.laws.Goals as goal

pub returns : goal.returns
returns c = record { least = least-join }
