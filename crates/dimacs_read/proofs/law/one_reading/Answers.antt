use Rattle.dimacs_read.proofs.ReadingLemmas.{each_is_read, one_fault, one_instance, no_instance_and_fault, one_rest}
use Rattle.dimacs_read.proofs.law.one_reading.Goals as goal

pub returns-clause-read : goal.returns-clause-read
returns-clause-read c = each_is_read

pub returns-clause-fault : goal.returns-clause-fault
returns-clause-fault c = one_fault

pub returns-clause-instance : goal.returns-clause-instance
returns-clause-instance c = one_instance

pub returns-clause-apart : goal.returns-clause-apart
returns-clause-apart c = no_instance_and_fault

pub returns-clause-rest : goal.returns-clause-rest
returns-clause-rest c = one_rest
