use Rattle.certificates.proofs.Common.{◌≡◌, ℕ, [], pos, ap, ◌∙◌, rules, to_z, of_z, w64, List, map, take_all}
use Rattle.document_lines.proofs.MappedLists.{mapped-more}
use Rattle.document_lines.proofs.vertex_set.vertex_numbers.Goals as goal

pub loop-vertex-preserved : goal.loop-vertex-preserved
loop-vertex-preserved c =
    let same : to_z w64 (of_z w64 c.from.result) ≡ c.from.result = search rules in
    let next = same ∙ c.from.ensures ∙ ap (λ (n : ℕ). pos n) (c.number.ensures ∙ c.vertex-item.is) in
    mapped-more (λ (n : ℕ). pos n) c.args.vertices.now c.loop-vertex.vertex-index _ _ [] _ _ c.loop-vertex-test.true c.loop-vertex.invariant next c.in_ok-push.ensures.items

pub returns : goal.returns
returns c = c.loop-vertex.invariant ∙ ap (λ (vs : List ℕ). map pos vs) (take_all c.loop-vertex.vertex-index c.args.vertices.now c.loop-vertex-test.false)
