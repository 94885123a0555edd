use Rattle.certificates.proofs.Common.{ℕ, All, sym, subst, Kind, form_of, only-bottleneck}
use Rattle.array_call.specs.Sheets.{IsCountOn, IsAnswerOn, sheet_of}
use Rattle.array_call.proofs.Founds.{made-by-barrier}
use Rattle.array_call.proofs.building.by_barrier.Goals as goal

pub returns-clause-counts : goal.returns-clause-counts
returns-clause-counts c =
    let answer = c.args.parts.now.answer.now in
    let counts = subst (λ (k : Kind). IsAnswerOn (form_of k) c.args.m answer) (sym (only-bottleneck c.args.kind c.requires.proof)) c.requires.answer in
    subst (λ (m : ℕ). All (IsCountOn m) c.in_ok-lightest.field-0.counts) counts.0 c.in_ok-lightest.ensures.counts

pub returns-clause-found : goal.returns-clause-found
returns-clause-found c =
    let b = c.in_ok-lightest.field-0 in
    let e = c.in_ok-lightest.ensures in
    made-by-barrier c.args.kind c.args.m (sheet_of c.args.parts.now) b c.requires.proof c.requires.answer c.requires.status e.kind e.status e.weight e.answer e.barrier
