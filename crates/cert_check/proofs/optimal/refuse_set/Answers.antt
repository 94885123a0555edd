use Rattle.certificates.proofs.Common.{◌≡◌, ◌-◌, List, get_or, ap, ◌∙◌, subst, SetLine}
use Rattle.cert_check.specs.Verdicts.{IsFirstFormless}
use Rattle.cert_check.proofs.FaultLemmas.{first_line}
use Rattle.cert_check.proofs.optimal.refuse_set.Goals as goal

pub returns-clause-verdict : goal.returns-clause-verdict
returns-clause-verdict c =
    let d = c.args.document.now in
    let number = c.args.number in
    let z : SetLine = c.index-as_slice-number.result in
    let there : z ≡ get_or d.sets (number - 1) z = c.index-as_slice-number.is ∙ ap (λ (zs : List SetLine). get_or zs (number - 1) z) c.as_slice.ensures in
    (subst (λ (t : SetLine). IsFirstFormless d t.line) c.index-as_slice-number.is (first_line d number z c.requires.fault there), c.requires.before)
