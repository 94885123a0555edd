use Rattle.std.proofs.Common.{◌+◌, arith, ◌∙◌, sym}
use Rattle.std.proofs.lemmas.Grind.{common_steps}
use Rattle.std.proofs.lemmas.List.{take_rest}
use Rattle.mb_base.proofs.FieldLemmas.{fields_first, fields_last}
use Rattle.mb_base.proofs.fields.next_field.Goals as goal

pub returns-in-Some : goal.returns-in-Some
returns-in-Some c = rw (take_rest c.skip_blanks-rest.result.now (c.in-Some.end + 1)) (sym c.skip_blanks-rest.ensures.fields
    ∙ fields_first c.skip_blanks-rest.result.now c.in-Some.end c.skip_blanks-rest.ensures.begins (sym c.first_blank.ensures ∙ c.in-Some.is))

pub returns-in-None : goal.returns-in-None
returns-in-None c = sym c.skip_blanks-rest.ensures.fields ∙ fields_last c.skip_blanks-rest.result.now (grind (arith, common_steps)) c.skip_blanks-rest.ensures.begins
    (sym c.first_blank.ensures ∙ c.in-None.is)
