use Rattle.certificates.proofs.Common.{◌≡◌, ◌++◌, pos, take, map, Reference}
use Rattle.document_lines.proofs.items.push_references.Given as goal

abbrev pub invariant-loop-line : goal.invariant-loop-line
invariant-loop-line l = l.items.items ≡ l.fn.items.items ++ map (λ r. Reference (pos r)) (take l.line-index l.lines)
