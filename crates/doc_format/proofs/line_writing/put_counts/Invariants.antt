use Rattle.graph_theory.proofs.Common.{◌≡◌, ◌++◌, take, map}
use Rattle.doc_format.specs.declared.part.Part.TheVariants.{Count}
use Rattle.doc_format.specs.Spelling.{parts_text}
use Rattle.doc_format.proofs.line_writing.put_counts.Given as goal

abbrev pub invariant-loop-x : goal.invariant-loop-x
invariant-loop-x l = l.out.items ≡ l.initial.out.items ++ parts_text (map Count (take l.x-index l.counts))
