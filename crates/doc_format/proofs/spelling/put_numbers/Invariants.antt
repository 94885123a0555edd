use Rattle.graph_theory.proofs.Common.{◌≡◌, ◌++◌, take}
use Rattle.doc_format.specs.Spelling.{spaced}
use Rattle.doc_format.proofs.spelling.put_numbers.Given as goal

abbrev pub invariant-loop-number : goal.invariant-loop-number
invariant-loop-number l = l.out.items ≡ l.initial.out.items ++ spaced (take l.number-index l.numbers)
