use Rattle.certificates.proofs.Common.{◌≡◌, ℕ, ℤ, pos, ap, ◌∙◌, rules, to_z, of_z, w64, Vertex, List, map, ◌++◌, take_all}
use Rattle.document_lines.proofs.MappedLists.{mapped-more}
use Rattle.document_lines.proofs.items.push_vertices.Goals as goal

pub loop-vertex-preserved : goal.loop-vertex-preserved
loop-vertex-preserved c =
    let same : to_z w64 (of_z w64 c.from.result) ≡ c.from.result = search rules in
    let next = ap (λ (z : ℤ). Vertex z) (same ∙ c.from.ensures) in
    let out = c.args.items.now.items in
    mapped-more (λ (n : ℕ). Vertex (pos n)) c.args.vertices.now c.loop-vertex.vertex-index 0 _ out _ _ c.loop-vertex-test.true c.loop-vertex.invariant next c.in_ok-push.ensures.items

pub returns : goal.returns
returns c =
    let whole = take_all c.loop-vertex.vertex-index c.args.vertices.now c.loop-vertex-test.false in
    c.loop-vertex.invariant ∙ ap (λ (vs : List ℕ). c.args.items.now.items ++ map (λ (v : ℕ). Vertex (pos v)) vs) whole
