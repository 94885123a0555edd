use Rattle.graph_theory.proofs.Common.{◌≡◌, ◌++◌, true, All}
use Rattle.std.specs.Prelude.{option_map}
use Rattle.doc_format.specs.Items.{items, is_item}
use Rattle.doc_format.proofs.items.push_items.Given as goal

abbrev pub invariant-loop-field : goal.invariant-loop-field
invariant-loop-field l = record {
  value : items l.fn.fields ≡ option_map (λ xs. l.values ++ xs) (items l.field-iterator);
  form : All (λ x. is_item x ≡ true) l.values;
}
