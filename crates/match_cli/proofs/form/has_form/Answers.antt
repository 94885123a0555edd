use Rattle.mb_problem.proofs.Common.{arith, ap, ap₂, sym, ◌∙◌, ◌∷◌, [], string_bytes}
use Rattle.match_cli.specs.Form.{after_name_form, has_form}
use Rattle.match_cli.proofs.FormLemmas.{four_words, six_words}
use Rattle.match_cli.proofs.form.has_form.Goals as goal

pub returns-in-len4 : goal.returns-in-len4
returns-in-len4 c =
    let same = four_words string_bytes c.args.words.now c.a-item-then-words-lt5.result c.b-item-then-words-lt5.result c.c-item.result
    (omega arith) c.a-item-then-words-lt5.is c.b-item-then-words-lt5.is c.c-item.is in
    c.has_form_of_three.ensures
    ∙ ap₂ (λ a r. after_name_form (a ∷ r)) c.as_str-in-len4.ensures.value (ap₂ (λ b d. b ∷ d ∷ []) c.as_str-in-len4-2.ensures.value c.as_str-in-len4-3.ensures.value)
    ∙ sym (ap has_form same)

pub returns-in-len6 : goal.returns-in-len6
returns-in-len6 c =
    let same = six_words string_bytes c.args.words.now c.a-item-then-words-lt7.result c.b-item-then-words-lt7.result c.c-item-then-words-lt7.result c.d-item.result c.e-item.result
    (omega arith) c.a-item-then-words-lt7.is c.b-item-then-words-lt7.is c.c-item-then-words-lt7.is c.d-item.is c.e-item.is in
    c.has_form_of_five.ensures
    ∙ ap₂ (λ a r. after_name_form (a ∷ r)) c.as_str-in-len6.ensures.value
    (ap₂ (λ b r. b ∷ r) c.as_str-in-len6-2.ensures.value
    (ap₂ (λ d r. d ∷ r) c.as_str-in-len6-3.ensures.value
    (ap₂ (λ e g. e ∷ g ∷ []) c.as_str-in-len6-4.ensures.value c.as_str-in-len6-5.ensures.value)))
    ∙ sym (ap has_form same)
