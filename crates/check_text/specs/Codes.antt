-- The exit status of the process for each way that a run can end, and how a verdict ends it.
use Rattle.std.specs.Prelude.{ℕ}
use Rattle.cert_check.specs.declared.rule.Verdict.{Verdict}
use Rattle.cert_check.specs.declared.rule.Verdict.TheVariants as verdict
use Rattle.check_text.specs.declared.status.Status.{Status}
use Rattle.check_text.specs.declared.status.Status.TheVariants.{Done, Rejected, Usage, Malformed}
use Rattle.check_text.specs.declared.status.Status.TheVariants.{TooLarge, TooLong, ReadFault}
use Rattle.check_text.specs.declared.status.Status.TheVariants.{WriteFault, OutOfMemory}

abbrev pub code_of : Status → ℕ
code_of Done = 0
code_of Rejected = 1
code_of Usage = 2
code_of Malformed = 3
code_of TooLarge = 4
code_of TooLong = 5
code_of ReadFault = 6
code_of WriteFault = 7
code_of OutOfMemory = 8

abbrev pub status_of : Verdict → Status
status_of verdict.Accepted = Done
status_of (verdict.Rejected rule line) = Rejected
