use Rattle.graph_theory.proofs.Common.{◌≡◌, ◌++◌, take, map}
use Rattle.doc_format.specs.declared.part.Part.TheVariants.{Even}
use Rattle.doc_format.specs.Spelling.{parts_text}
use Rattle.doc_format.proofs.line_writing.put_paths.Given as goal

abbrev pub invariant-loop-r : goal.invariant-loop-r
invariant-loop-r l = l.out.items ≡ l.initial.out.items ++ parts_text (map Even (take l.r-index l.paths))
