use Rattle.conservative_paths.proofs.EvenSets.{even_sets_decide}
use Rattle.conservative_paths.proofs.law.laws.Goals as goal

pub returns : goal.returns
returns c = record { conservative = even_sets_decide }
