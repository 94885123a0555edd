use Rattle.search_heap.proofs.Maps.{new_has_none, has_what_is_set, others_stay, places_stay, only_items_have}
use Rattle.search_heap.proofs.law.laws.Goals as goal

pub returns : goal.returns
returns c = record { new = new_has_none; set = has_what_is_set; others = others_stay; places = places_stay; items = only_items_have }
