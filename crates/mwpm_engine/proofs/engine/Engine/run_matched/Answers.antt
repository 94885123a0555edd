use Rattle.alt_forest.proofs.Common.{subst}
use Rattle.mwpm_engine.specs.Solutions.{HasPerfect}
use Rattle.mwpm_engine.proofs.engine.Engine.run_matched.Goals as goal

pub solve_matched-requires : goal.solve_matched-requires
solve_matched-requires g c = record { not_run = c.requires.not_run; perfect = subst HasPerfect c.requires.same_graph c.requires.perfect }
