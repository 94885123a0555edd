use Rattle.mb_problem.proofs.Common.{map, string_bytes, ◌∙◌, sym}
use Rattle.match_cli.proofs.FormLemmas.{form_gives, formless}
use Rattle.match_cli.proofs.read.command_of.Goals as goal

pub returns-then-not-has_form : goal.returns-then-not-has_form
returns-then-not-has_form c = sym (formless (map string_bytes c.args.words.now) (sym c.has_form.ensures ∙ c.if-not-has_form.true))

pub returns : goal.returns
returns c =
    let gives = form_gives (map string_bytes c.args.words.now) (sym c.has_form.ensures ∙ c.if-not-has_form.false) in
    c.command_found.ensures gives.name gives.rows (c.requires ∙ gives.found) ∙ gives.command
