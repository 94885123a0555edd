use Rattle.certificates.proofs.Common.{◌≡◌, ◌++◌, map, take, item_number}
use Rattle.array_call.proofs.laying.push_items.Given as goal

abbrev pub invariant-loop-item : goal.invariant-loop-item
invariant-loop-item l = l.numbers.items ≡ l.initial.numbers.items ++ map item_number (take l.item-index l.items)
