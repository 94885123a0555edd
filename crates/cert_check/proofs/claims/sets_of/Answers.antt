use Rattle.certificates.proofs.Common.{ap, ◌∙◌, map, take_all, set_of}
use Rattle.graph_theory.proofs.MappedLists.{mapped-more}
use Rattle.cert_check.proofs.claims.sets_of.Goals as goal

pub loop-z-preserved : goal.loop-z-preserved
loop-z-preserved c =
    let next = c.in_ok-set_of.ensures ∙ ap set_of c.z-item.is in
    mapped-more set_of c.args.lines.now c.loop-z.z-index c.z-item.result _ _ _ c.loop-z-test.true c.loop-z.invariant next c.in_ok-push.ensures.items

pub returns : goal.returns
returns c = c.loop-z.invariant ∙ ap (map set_of) (take_all c.loop-z.z-index c.args.lines.now c.loop-z-test.false)
