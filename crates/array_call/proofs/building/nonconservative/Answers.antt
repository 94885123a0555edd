use Rattle.certificates.proofs.Common.{◌≡◌, true, asks_conservative, rules}
use Rattle.array_call.specs.Sheets.{sheet_of}
use Rattle.array_call.proofs.Founds.{made-walk}
use Rattle.array_call.proofs.building.nonconservative.Goals as goal

pub returns-clause-found : goal.returns-clause-found
returns-clause-found c = λ m.
    let e = c.in_ok-circuit.ensures in
    let asks : asks_conservative c.args.kind ≡ true = search rules in
    made-walk c.args.kind m (sheet_of c.args.parts.now) c.in_ok-circuit.field-0 asks c.requires.status e.kind e.status e.edges e.start
