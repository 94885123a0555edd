use Rattle.graph_theory.proofs.Handshake.{handshake}
use Rattle.graph_theory.proofs.Duality.{weak_duality}
use Rattle.graph_theory.proofs.Barriers.{barrier_excludes}
use Rattle.graph_theory.proofs.OddParts.{odd_part_excludes}
use Rattle.graph_theory.proofs.Walks.{split_part_excludes}
use Rattle.graph_theory.proofs.law.laws.Goals as goal

pub returns-clause-handshake : goal.returns-clause-handshake
returns-clause-handshake c = handshake

pub returns-clause-duality : goal.returns-clause-duality
returns-clause-duality c = weak_duality

pub returns-clause-barrier : goal.returns-clause-barrier
returns-clause-barrier c = barrier_excludes

pub returns-clause-odd_part : goal.returns-clause-odd_part
returns-clause-odd_part c = odd_part_excludes

pub returns-clause-split_part : goal.returns-clause-split_part
returns-clause-split_part c = split_part_excludes
