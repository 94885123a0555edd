-- A heap with a free place: an entry is put there, or that of another place comes there.
use Rattle.std.proofs.lemmas.Bool.Decides.{nat_tests}
use Rattle.std.proofs.Common.{◌≡◌, ℕ, ◌<◌, ◌≢◌, List, length, get_or, set, map, sym, ◌∙◌, subst, arith, Option, Some, ℤ}
use Rattle.std.proofs.lemmas.List.{get_or-set_same, get_or-set_other, length-set}
use Rattle.search_heap.specs.declared.entry.Entry.{Entry}
use Rattle.search_heap.specs.Heaps.{blank, moment_in, slot_at, key, held, AreTables, HasHole, IsHeap, IsMended}
use Rattle.search_heap.proofs.EntryAt.{entry_at}
use Rattle.search_heap.proofs.Entries.{entries_written}
use Rattle.search_heap.proofs.Orders.{IsSwapped}
use Rattle.search_heap.proofs.Readings.{key_by}

module _ (heap : List Entry) (places : List ℕ) (n p : ℕ) (entry : Entry) (h : HasHole heap places n p entry.slot) where
  put_size : length (set heap p entry) ≡ length heap
  put_size = length-set heap p entry

  put_entry : entry_at (set heap p entry) p ≡ entry
  put_entry = get_or-set_same heap p entry blank (omega (arith, h.place, h.count_limit))

  other_entry : (i : ℕ) → i ≢ p → entry_at (set heap p entry) i ≡ entry_at heap i
  other_entry i ne = get_or-set_other heap p i entry blank ne

  put_place : get_or (set places entry.slot p) entry.slot 0 ≡ p
  put_place = get_or-set_same places entry.slot p 0 (omega (arith, h.within, h.sizes))

  other_place : (s : ℕ) → s ≢ entry.slot → get_or (set places entry.slot p) s 0 ≡ get_or places s 0
  other_place s ne = get_or-set_other places entry.slot s p 0 ne

  pub put_tables : AreTables (set heap p entry) (set places entry.slot p) n
  put_tables = record {
    inverse = record {
      sizes = length-set places entry.slot p ∙ h.sizes ∙ sym put_size;
      slots = λ i low. grind (arith, put_entry, other_entry i, h.within, h.slots i low, put_size);
      there = λ i low. grind (arith, put_entry, other_entry i, put_place, other_place (slot_at heap i), h.apart i low, h.there i low);
      spots = λ s low l. grind (arith, put_place, other_place s, h.place, h.spots s, put_size);
      back = λ s low l. grind (arith, put_entry, other_entry (get_or places s 0), put_place, other_place s, h.elsewhere s, h.back s, put_size);
    };
    count_limit = omega (arith, put_size, h.count_limit);
    size_limit = omega (arith, put_size, h.size_limit);
  }

  pub put_key : (highs : List ℤ) → key highs (set heap p entry) p ≡ moment_in highs entry
  put_key highs = key_by highs (entry_at (set heap p entry) p) entry put_entry

  pub other_key : (highs : List ℤ) (i : ℕ) → i ≢ p → key highs (set heap p entry) i ≡ key highs heap i
  other_key highs i ne = key_by highs (entry_at (set heap p entry) i) (entry_at heap i) (other_entry i ne)

  -- the tables are in order again
  pub put_mends : (highs : List ℤ) → IsHeap (key highs (set heap p entry)) n → IsMended highs entry heap places (set heap p entry) (set places entry.slot p) n
  put_mends highs order = record {
    tables = put_tables;
    order = order;
    size = put_size;
    own = grind (arith, nat_tests, put_place, put_entry, h.place);
    same = λ s low ne. grind (arith, nat_tests, other_place s ne, other_entry (get_or places s 0) (h.elsewhere s (omega (arith, low, put_size)) ne));
  }

  -- what slots have then
  pub put_entries : (highs : List ℤ) (last_heap : List Entry) (last_places : List ℕ) → IsMended highs entry heap places last_heap last_places n
      → (f : ℕ → Option ℤ) → ((s : ℕ) → s < length heap → s ≢ entry.slot → held highs n heap (get_or places s 0) ≡ f (get_or places s 0))
      → map (held highs n last_heap) last_places ≡ set (map f places) entry.slot (Some (moment_in highs entry))
  put_entries highs last_heap last_places d f kept =
      entries_written f (held highs n last_heap) places last_places entry.slot (Some (moment_in highs entry))
      (d.tables.inverse.sizes ∙ d.size ∙ sym h.sizes) (omega (arith, h.within, h.sizes)) d.own
      (λ s ne low. let within : s < length heap = omega (arith, low, h.sizes) in d.same s (omega (arith, within, d.size)) ne ∙ kept s within ne)

-- the entry at another place comes to the free one, and leaves its own free
module _ (heap : List Entry) (places : List ℕ) (n j p slot : ℕ) (h : HasHole heap places n j slot) (within : p < n) (differ : p ≢ j) where
  abbrev above : Entry
  above = entry_at heap p

  abbrev moved_heap : List Entry
  moved_heap = set heap j above

  abbrev moved_places : List ℕ
  moved_places = set places above.slot j

  moved_size : length moved_heap ≡ length heap
  moved_size = length-set heap j above

  pub moved_entry : entry_at moved_heap j ≡ above
  moved_entry = get_or-set_same heap j above blank (omega (arith, h.place, h.count_limit))

  pub kept_entry : (i : ℕ) → i ≢ j → entry_at moved_heap i ≡ entry_at heap i
  kept_entry i ne = get_or-set_other heap j i above blank ne

  moved_place : get_or moved_places above.slot 0 ≡ j
  moved_place = get_or-set_same places above.slot j 0 (omega (arith, h.slots p within differ, h.sizes))

  kept_place : (s : ℕ) → s ≢ above.slot → get_or moved_places s 0 ≡ get_or places s 0
  kept_place s ne = get_or-set_other places above.slot s j 0 ne

  -- no slot stands at two places
  other_slots : (i : ℕ) → i < n → i ≢ j → i ≢ p → slot_at heap i ≢ above.slot
  other_slots i low ne other = grind (arith, h.there i low ne, h.there p within differ)

  pub hole_moves : HasHole moved_heap moved_places n p slot
  hole_moves = record {
    sizes = length-set places above.slot j ∙ h.sizes ∙ sym moved_size;
    count_limit = omega (arith, moved_size, h.count_limit);
    size_limit = omega (arith, moved_size, h.size_limit);
    place = within;
    within = omega (arith, moved_size, h.within);
    slots = λ i low no. grind (arith, moved_entry, kept_entry i, h.slots p within differ, h.slots i low, moved_size);
    there = λ i low no. grind (arith, moved_entry, kept_entry i, moved_place, kept_place (slot_at heap i), other_slots i low, h.there i low);
    apart = λ i low no q. grind (arith, moved_entry, kept_entry i, h.apart p within differ, h.apart i low);
    spots = λ s low ne l. grind (arith, moved_place, kept_place s, h.place, h.spots s, moved_size);
    elsewhere = λ s low ne q. grind (arith, moved_place, kept_place s, differ, within, h.back s, moved_size);
    back = λ s low ne l. grind (arith, moved_entry, kept_entry (get_or places s 0), moved_place, kept_place s, h.elsewhere s, h.back s, moved_size);
  }

  pub same_moved : (highs : List ℤ) (s : ℕ) → s < length heap → s ≢ slot → held highs n moved_heap (get_or moved_places s 0) ≡ held highs n heap (get_or places s 0)
  same_moved highs s low ne =
      grind (arith, nat_tests, moved_place, kept_place s, moved_entry, kept_entry (get_or places s 0), h.elsewhere s low ne, h.there p within differ, h.place)

  -- of an entry that is put at one place or the other
  pub keys_swapped : (highs : List ℤ) (entry : Entry) (e : entry.slot ≡ slot) → IsSwapped (key highs (set heap j entry)) (key highs (set moved_heap p entry)) j p
  keys_swapped highs entry e =
      let first = subst (HasHole heap places n j) (sym e) h in
      let then = subst (HasHole moved_heap moved_places n p) (sym e) hole_moves in
      let f = other_key heap places n j entry first highs in
      let g = other_key moved_heap moved_places n p entry then highs in
      record {
        first = g j (λ q. differ (sym q)) ∙ key_by highs (entry_at moved_heap j) above moved_entry ∙ sym (f p differ);
        second = put_key moved_heap moved_places n p entry then highs ∙ sym (put_key heap places n j entry first highs);
        others = λ i q r. g i r ∙ key_by highs (entry_at moved_heap i) (entry_at heap i) (kept_entry i q) ∙ sym (f i q);
      }
