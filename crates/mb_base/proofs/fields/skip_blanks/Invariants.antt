use Rattle.std.proofs.Common.{◌≡◌, length}
use Rattle.mb_base.specs.Text.{fields}
use Rattle.mb_base.proofs.fields.skip_blanks.Given as goal

abbrev pub invariant-blanks : goal.invariant-blanks
invariant-blanks l = fields l.rest ≡ fields l.line

abbrev pub decreases-blanks : goal.decreases-blanks
decreases-blanks l = length l.rest
