use Rattle.certificates.proofs.Common.{◌≡◌, true, map, take, All, is_item, item_number}
use Rattle.array_call.proofs.building.items_of.Given as goal

abbrev pub invariant-loop-k : goal.invariant-loop-k
invariant-loop-k l = record {
  numbers : map item_number l.items.items ≡ take l.k l.numbers;
  items : All (λ x. is_item x ≡ true) l.items.items;
}
