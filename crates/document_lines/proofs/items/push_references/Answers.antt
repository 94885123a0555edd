use Rattle.certificates.proofs.Common.{◌≡◌, ℕ, ℤ, pos, ap, ◌∙◌, rules, to_z, of_z, w64, Reference, List, map, ◌++◌, take_all}
use Rattle.document_lines.proofs.MappedLists.{mapped-more}
use Rattle.document_lines.proofs.items.push_references.Goals as goal

pub loop-line-preserved : goal.loop-line-preserved
loop-line-preserved c =
    let same : to_z w64 (of_z w64 c.from.result) ≡ c.from.result = search rules in
    let next = ap (λ (z : ℤ). Reference z) (same ∙ c.from.ensures) in
    let out = c.args.items.now.items in
    mapped-more (λ (n : ℕ). Reference (pos n)) c.args.lines.now c.loop-line.line-index 0 _ out _ _ c.loop-line-test.true c.loop-line.invariant next c.in_ok-push.ensures.items

pub returns : goal.returns
returns c =
    let whole = take_all c.loop-line.line-index c.args.lines.now c.loop-line-test.false in
    c.loop-line.invariant ∙ ap (λ (ls : List ℕ). c.args.items.now.items ++ map (λ (r : ℕ). Reference (pos r)) ls) whole
