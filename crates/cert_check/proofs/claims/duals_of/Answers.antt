use Rattle.certificates.proofs.Common.{◌≡◌, List, map, ap, ◌∙◌, get_or, take_all, pos, rules, to_z, of_z, w64, DualLine}
use Rattle.graph_theory.proofs.MappedLists.{mapped-more}
use Rattle.cert_check.proofs.claims.duals_of.Goals as goal

pub loop-y-preserved : goal.loop-y-preserved
loop-y-preserved c =
    let d : DualLine = record { line = 0; vertex = pos 0; dual = pos 0 } in
    let y : DualLine = get_or c.args.lines.now c.loop-y.y-index d in
    let same : to_z w64 (of_z w64 y.dual) ≡ y.dual = search rules in
    mapped-more (λ (z : DualLine). z.dual) c.args.lines.now c.loop-y.y-index d _ _ _ c.loop-y-test.true c.loop-y.invariant same c.in_ok-push.ensures.items

pub returns : goal.returns
returns c = c.loop-y.invariant ∙ ap (λ (ys : List DualLine). map (λ (y : DualLine). y.dual) ys) (take_all c.loop-y.y-index c.args.lines.now c.loop-y-test.false)
