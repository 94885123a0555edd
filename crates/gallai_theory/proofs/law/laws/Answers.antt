use Rattle.gallai_theory.proofs.Berge.{odd_count_berge, odd_count_missed}
use Rattle.gallai_theory.proofs.Sliding.{paths_decompose}
use Rattle.gallai_theory.proofs.Loops.{loops_matter_not}
use Rattle.gallai_theory.proofs.law.laws.Goals as goal

pub returns-clause-berge : goal.returns-clause-berge
returns-clause-berge c = odd_count_berge

pub returns-clause-missed : goal.returns-clause-missed
returns-clause-missed c = odd_count_missed

pub returns-clause-paths : goal.returns-clause-paths
returns-clause-paths c = paths_decompose

pub returns-clause-loops : goal.returns-clause-loops
returns-clause-loops c = loops_matter_not
