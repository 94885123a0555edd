use Rattle.mwpm_engine.proofs.FewExpands.{few_expands}
use Rattle.mwpm_engine.proofs.law.laws.Goals as goal

pub returns : goal.returns
returns c = record { expands = few_expands }
