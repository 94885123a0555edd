use Rattle.cert_check.proofs.FaultLemmas.{first-fault, first-unsorted}
use Rattle.cert_check.proofs.set_form.lesser.Goals as goal

pub returns-then-number-mixed : goal.returns-then-number-mixed
returns-then-number-mixed c = first-fault c.args.document.now c.args.mixed c.args.number c.requires.mixed c.requires.fault c.if-number-mixed.true

pub returns : goal.returns
returns c = first-unsorted c.args.document.now c.args.mixed c.args.number c.requires.mixed c.requires.fault c.if-number-mixed.false
