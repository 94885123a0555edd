use Rattle.graph_theory.proofs.Common.{rules, subst, HaveItemForm}
use Rattle.cert_check.proofs.FaultLemmas.{first-mixed}
use Rattle.cert_check.proofs.set_form.first_formless.Goals as goal

pub returns-in-None : goal.returns-in-None
returns-in-None c =
    let have : HaveItemForm c.args.sets.now = search rules in
    first-mixed c.args.document.now c.args.mixed c.requires.mixed (subst HaveItemForm c.requires.sets have)
