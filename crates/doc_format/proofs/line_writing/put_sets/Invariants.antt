use Rattle.graph_theory.proofs.Common.{◌≡◌, ◌++◌, take, map}
use Rattle.doc_format.specs.declared.part.Part.TheVariants.{Set}
use Rattle.doc_format.specs.Spelling.{parts_text}
use Rattle.doc_format.proofs.line_writing.put_sets.Given as goal

abbrev pub invariant-loop-z : goal.invariant-loop-z
invariant-loop-z l = l.out.items ≡ l.initial.out.items ++ parts_text (map Set (take l.z-index l.sets))
