use Rattle.certificates.proofs.Common.{◌≡◌, ℕ, [], pos, ap, ◌∙◌, rules, to_z, of_z, w64, List, map, take_all}
use Rattle.document_lines.proofs.MappedLists.{mapped-more}
use Rattle.document_lines.proofs.walk.numbers.Goals as goal

pub loop-edge-preserved : goal.loop-edge-preserved
loop-edge-preserved c =
    let same : to_z w64 (of_z w64 c.from.result) ≡ c.from.result = search rules in
    let next = same ∙ c.from.ensures ∙ ap (λ (n : ℕ). pos n) (c.number.ensures ∙ c.edge-item.is) in
    mapped-more (λ (n : ℕ). pos n) c.args.edges.now c.loop-edge.edge-index _ _ [] _ _ c.loop-edge-test.true c.loop-edge.invariant next c.in_ok-push.ensures.items

pub returns : goal.returns
returns c = c.loop-edge.invariant ∙ ap (λ (es : List ℕ). map pos es) (take_all c.loop-edge.edge-index c.args.edges.now c.loop-edge-test.false)
