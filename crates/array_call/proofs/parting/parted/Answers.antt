use Rattle.std.proofs.Common.{◌≡◌, ◌⊎◌, ◌<ℤ◌, pos, length, rules, refl}
use Rattle.array_call.specs.Sheets.{number_at}
use Rattle.array_call.proofs.OneSheet.{after-duals, leads-there, others-there}
use Rattle.array_call.proofs.parting.parted.Goals as goal

-- src/parting.rt:65:25
pub returns-in_err-leads-clause-none : goal.returns-in_err-leads-clause-none
returns-in_err-leads-clause-none c = λ none s p.
    let head = c.in_ok-head.head.now in
    let answer : pos (length c.in_ok-answer.answer.now) ≡ number_at head 3 = search rules in
    let duals : pos (length c.in_ok-duals.duals.now) ≡ number_at head 4 = search rules in
    let a = after-duals c.args.numbers.now head c.in_ok-head.rest.now c.in_ok-answer.answer.now c.in_ok-answer.rest.now c.in_ok-duals.duals.now c.in_ok-duals.rest.now s p
    c.in_ok-head.ensures.count c.in_ok-head.ensures.whole answer c.in_ok-answer.ensures.whole duals c.in_ok-duals.ensures.whole in
    let short : (number_at head 5 <ℤ pos 0) ⊎ (pos (length c.in_ok-duals.rest.now) <ℤ number_at head 5) = search rules in
    leads-there s c.args.numbers.now head c.in_ok-duals.rest.now p a short

-- src/parting.rt:66:42
pub returns-in_err-offsets-clause-none : goal.returns-in_err-offsets-clause-none
returns-in_err-offsets-clause-none c = λ none s p.
    let head = c.in_ok-head.head.now in
    let answer : pos (length c.in_ok-answer.answer.now) ≡ number_at head 3 = search rules in
    let duals : pos (length c.in_ok-duals.duals.now) ≡ number_at head 4 = search rules in
    let leads : pos (length c.in_ok-leads.leads.now) ≡ number_at head 5 = search rules in
    let a = after-duals c.args.numbers.now head c.in_ok-head.rest.now c.in_ok-answer.answer.now c.in_ok-answer.rest.now c.in_ok-duals.duals.now c.in_ok-duals.rest.now s p
    c.in_ok-head.ensures.count c.in_ok-head.ensures.whole answer c.in_ok-answer.ensures.whole duals c.in_ok-duals.ensures.whole in
    let listed = others-there s c.args.numbers.now head c.in_ok-leads.leads.now c.in_ok-duals.rest.now c.in_ok-leads.rest.now p a leads c.in_ok-leads.ensures.whole in
    c.in_err-offsets.ensures.none refl s.offsets s.items s.excluding listed
