use Rattle.graph_theory.proofs.Common.{◌≡◌, ◌++◌}
use Rattle.std.specs.Prelude.{option_map}
use Rattle.doc_format.specs.Numbers.{numbers}
use Rattle.doc_format.proofs.number_lists.push_numbers.Given as goal

abbrev pub invariant-loop-field : goal.invariant-loop-field
invariant-loop-field l = numbers l.fn.fields ≡ option_map (λ zs. l.values ++ zs) (numbers l.field-iterator)
