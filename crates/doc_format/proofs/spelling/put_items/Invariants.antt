use Rattle.graph_theory.proofs.Common.{◌≡◌, ◌++◌, take, map, flat_map}
use Rattle.doc_format.specs.Items.{item_text}
use Rattle.doc_format.specs.Spelling.{after_space}
use Rattle.doc_format.proofs.spelling.put_items.Given as goal

abbrev pub invariant-loop-item : goal.invariant-loop-item
invariant-loop-item l = l.out.items ≡ l.initial.out.items ++ flat_map after_space (map item_text (take l.item-index l.items))
