use Rattle.graph_theory.proofs.Common.{◌≡◌, ◌++◌, take, map}
use Rattle.doc_format.specs.declared.part.Part.TheVariants.{Dual}
use Rattle.doc_format.specs.Spelling.{parts_text}
use Rattle.doc_format.proofs.line_writing.put_duals.Given as goal

abbrev pub invariant-loop-y : goal.invariant-loop-y
invariant-loop-y l = l.out.items ≡ l.initial.out.items ++ parts_text (map Dual (take l.y-index l.duals))
