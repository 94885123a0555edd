use Rattle.certificates.proofs.Common.{◌≡◌, false, sym, ◌∙◌, obstruction_of, is_never, rules}
use Rattle.array_call.specs.Sheets.{sheet_of}
use Rattle.array_call.proofs.Founds.{falls-excluded, made-excluded, members-stated}
use Rattle.array_call.proofs.building.infeasible.Goals as goal

pub returns-then-not-is_ascending-clause-found : goal.returns-then-not-is_ascending-clause-found
returns-then-not-is_ascending-clause-found c = λ m.
    falls-excluded c.args.kind m (sheet_of c.args.parts.now) c.requires.status (sym c.if-not-is_ascending.ensures)

pub returns-clause-found : goal.returns-clause-found
returns-clause-found c = λ m.
    let e = c.in_ok-infeasible_by.ensures in
    let some : is_never (obstruction_of c.args.kind) ≡ false = search rules in
    made-excluded c.args.kind m (sheet_of c.args.parts.now) c.in_ok-infeasible_by.field-0 c.requires.status e.kind_is e.status
    (members-stated c.args.kind c.in_ok-line.line c.in_ok-infeasible_by.field-0 some e.body ∙ c.in_ok-line.ensures)
