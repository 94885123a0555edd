-- The moments by slot, as the tables give them.
use Rattle.std.proofs.Common.{◌≡◌, ℕ, ◌<◌, ◌≢◌, List, [], ◌∷◌, length, get_or, set, map, replicate, refl, ap₂, arith, Option, None, ℤ}
use Rattle.std.proofs.lemmas.List.{get_or-set_same, get_or-set_other, get_or-map, length-map, length-set, ext_get_or}
use Rattle.search_heap.specs.declared.entry.Entry.{Entry}
use Rattle.search_heap.specs.Heaps.{held}
use Rattle.search_heap.proofs.Readings.{held_absent}

-- tables that differ at one slot
pub entries_written : (f g : ℕ → Option ℤ) (places new_places : List ℕ) (slot : ℕ) (entry : Option ℤ)
    → length new_places ≡ length places → slot < length places
    → g (get_or new_places slot 0) ≡ entry
    → ((s : ℕ) → s ≢ slot → s < length places → g (get_or new_places s 0) ≡ f (get_or places s 0))
    → map g new_places ≡ set (map f places) slot entry
entries_written f g places new_places slot entry sizes within here others =
    let long : length (map f places) ≡ length places = length-map places f in
    let new_long : length (map g new_places) ≡ length new_places = length-map new_places g in
    let same = get_or-set_same (map f places) slot entry None (omega (arith, long, within)) in
    ext_get_or None (map g new_places) (set (map f places) slot entry)
    (omega (arith, new_long, sizes, long, length-set (map f places) slot entry))
    (λ s h. grind (arith, new_long, sizes, get_or-map g new_places s 0 None, here, same, others s, get_or-set_other (map f places) slot s entry None, get_or-map f places s 0 None))

-- no slot is there
pub none_held : (highs : List ℤ) (heap : List Entry) (places : List ℕ) → map (held highs 0 heap) places ≡ replicate (length places) None
none_held highs heap [] = refl
none_held highs heap (p ∷ ps) = ap₂ (λ (x : Option ℤ) (xs : List (Option ℤ)). x ∷ xs) (held_absent highs 0 heap p (omega arith)) (none_held highs heap ps)
