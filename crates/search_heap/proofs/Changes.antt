-- What a slot that comes, goes or gets another moment leaves of a heap.
use Rattle.std.proofs.lemmas.Int.{ints}
use Rattle.std.proofs.lemmas.Bool.Decides.{nat_tests}
use Rattle.std.proofs.Common.{◌≡◌, ℕ, ◌+◌, ◌-◌, ◌/◌, ◌<◌, ◌≤◌, ◌≢◌, List, length, get_or, set, map, refl, sym, ap, ◌∙◌, subst, ⊎_elim, arith}
use Rattle.std.proofs.Common.{Option, Some, None, ℤ, ◌≤ℤ◌}
use Rattle.std.proofs.lemmas.Bool.{cases_eq, cases_lt}
use Rattle.std.proofs.lemmas.List.{get_or-set_same, get_or-set_other, get_or-map, length-map, length-set, get_or_past, set-get_or}
use Rattle.search_heap.specs.declared.entry.Entry.{Entry}
use Rattle.search_heap.specs.declared.heap.IndexedHeap.TheInside.{Inside}
use Rattle.search_heap.specs.Heaps.{absent, filled, moment_in, slot_at, key, held, AreTables, HasHole, IsPlaceOf, IsRewritten, IsHeap, IsHeapBut, IsRising, IsSinking, IsMended}
use Rattle.search_heap.proofs.EntryAt.{entry_at}
use Rattle.search_heap.specs.Slots.{IsLeastSlot}
use Rattle.search_heap.specs.Fields.{entries_of, IsSound}
use Rattle.search_heap.proofs.Orders.{lowered, heightened, root_least}
use Rattle.search_heap.proofs.Readings.{slot_by, key_kept, held_there, held_absent, one_place, not_at}
use Rattle.search_heap.proofs.Entries.{entries_written}
use Rattle.search_heap.proofs.Fillings.{filled_at, filled_size}
use Rattle.search_heap.proofs.Holes.{put_key, other_key, put_entries}
use Rattle.search_heap.proofs.Pigeonholes.{less_by_one}

-- a slot for each place
pub slots_long : (a : Inside) (xs : List (Option ℤ)) → IsSound a → entries_of a ≡ xs → length xs ≡ length a.highs
slots_long a xs s is =
    let moments : List (Option ℤ) = map (held a.highs a.count a.heap.items) a.places.items in
    let long : length moments ≡ length a.places.items = length-map a.places.items (held a.highs a.count a.heap.items) in
    sym (ap length is) ∙ filled_size (length a.highs) None moments (λ some. long ∙ s.places_room.whole (omega (arith, some, long)))

-- other keys as in a heap
pub heap_but : (f g : ℕ → ℤ) (j n m : ℕ) → ((i : ℕ) → i < m → i ≢ j → (i < n) × (g i ≡ f i)) → IsHeap f n → IsHeapBut g j m
heap_but f g j n m like h = record {
  others = λ p k a b c pj kj. grind (arith, ints, like p, like k c kj, h.order p k a b);
  around = λ k low a b c. grind (arith, ints, like ((j - 1) / 4), like k c, h.order ((j - 1) / 4) j, h.order j k a b);
}

-- what is held at a place other than the last
held_less : (highs : List ℤ) (last count : ℕ) (heap : List Entry) (p : ℕ) → last + 1 ≡ count → p ≢ last → held highs last heap p ≡ held highs count heap p
held_less highs last count heap p one_less ne = grind (arith, nat_tests)

-- what is held at the place of another slot than the one whose high half changes
held_kept : (highs new_highs : List ℤ) (slot count : ℕ) (heap : List Entry) (p : ℕ) → IsRewritten highs new_highs slot → (p < count → slot_at heap p ≢ slot)
    → held new_highs count heap p ≡ held highs count heap p
held_kept highs new_highs slot count heap p w other = grind (arith, nat_tests, key_kept highs new_highs slot heap p w)

-- the place of a slot is free for another entry of it
pub given_hole : (heap : List Entry) (places : List ℕ) (count p slot : ℕ) → AreTables heap places count → IsPlaceOf places count slot p → HasHole heap places count p slot
given_hole heap places count p slot t here =
    let slot_in : slot < length heap = omega (arith, here.known, t.inverse.sizes) in
    let own : slot ≡ slot_at heap p = sym (ap (λ k. slot_at heap k) here.place ∙ t.inverse.back slot slot_in (omega (arith, here.place, here.within))) in
    record {
      sizes = t.inverse.sizes;
      count_limit = t.count_limit;
      size_limit = t.size_limit;
      place = here.within;
      within = slot_in;
      slots = λ i low ne. t.inverse.slots i low;
      there = λ i low ne. t.inverse.there i low;
      apart = λ i low ne e. ne (one_place heap places count i p t.inverse low here.within (e ∙ own));
      spots = λ s low ne l. t.inverse.spots s low l;
      elsewhere = λ s low ne. not_at heap places count s p t.inverse here.within low (λ q. ne (q ∙ sym own));
      back = λ s low ne l. t.inverse.back s low l;
    }

-- a slot that gets another moment: an entry is put at its place
module _ (heap : List Entry) (places : List ℕ) (count p : ℕ) (entry : Entry) (t : AreTables heap places count) (here : IsPlaceOf places count entry.slot p) where
  hole : HasHole heap places count p entry.slot
  hole = given_hole heap places count p entry.slot t here

  module _ (highs new_highs : List ℤ) (w : IsRewritten highs new_highs entry.slot) where
    pub given_entries : (last_heap : List Entry) (last_places : List ℕ) → IsMended new_highs entry heap places last_heap last_places count
        → map (held new_highs count last_heap) last_places ≡ set (map (held highs count heap) places) entry.slot (Some (moment_in new_highs entry))
    given_entries last_heap last_places d =
        put_entries heap places count p entry hole new_highs last_heap last_places d (held highs count heap)
        (λ s low ne. held_kept highs new_highs entry.slot count heap (get_or places s 0) w (λ l e. ne (sym (t.inverse.back s low l) ∙ e)))

    given_key : (i : ℕ) → i < count → i ≢ p → key new_highs (set heap p entry) i ≡ key highs heap i
    given_key i low ne =
        other_key heap places count p entry hole new_highs i ne ∙ key_kept highs new_highs entry.slot heap i w (hole.apart i low ne)

    module _ (was m : ℤ) (old : key highs heap p ≡ was) (new : moment_in new_highs entry ≡ m) (order : IsHeap (key highs heap) count) where
      own_key : key new_highs (set heap p entry) p ≡ m
      own_key = put_key heap places count p entry hole new_highs ∙ new

      pub given_rises : m ≤ℤ was → IsRising (key new_highs (set heap p entry)) p count
      given_rises less =
          lowered (key highs heap) (key new_highs (set heap p entry)) p count here.within given_key
          (grind (arith, ints, own_key, old)) order

      pub given_sinks : was ≤ℤ m → IsSinking (key new_highs (set heap p entry)) p count
      given_sinks more =
          heightened (key highs heap) (key new_highs (set heap p entry)) p count here.within given_key
          (grind (arith, ints, own_key, old)) order

-- a slot that gets a moment and had none: its entry is put behind the others
module _ (heap : List Entry) (places : List ℕ) (count : ℕ) (entry : Entry) (t : AreTables heap places count) (slot_in : entry.slot < length heap)
    (behind : count ≤ get_or places entry.slot 0) where
  other_slots : (i : ℕ) → i < count → slot_at heap i ≢ entry.slot
  other_slots i p q = absurd (omega (arith, p, behind, t.inverse.there i p, ap (λ k. get_or places k 0) q))

  room : count < length heap
  room = less_by_one (slot_at heap) (λ s. get_or places s 0) count (length heap) entry.slot
      (record { within = t.inverse.slots; undone = t.inverse.there }) slot_in other_slots

  pub added_hole : HasHole heap places (count + 1) count entry.slot
  added_hole = record {
    sizes = t.inverse.sizes;
    count_limit = omega (arith, room);
    size_limit = t.size_limit;
    place = omega arith;
    within = slot_in;
    slots = λ i low ne. t.inverse.slots i (omega (arith, low, ne));
    there = λ i low ne. t.inverse.there i (omega (arith, low, ne));
    apart = λ i low ne. other_slots i (omega (arith, low, ne));
    spots = λ s low ne l. omega (arith, t.inverse.spots s low l);
    elsewhere = λ s low ne e. absurd (omega (arith, e, t.inverse.spots s low (omega (arith, e, room))));
    back = λ s low ne l. t.inverse.back s low (t.inverse.spots s low (omega (arith, l, room)));
  }

  module _ (highs new_highs : List ℤ) (w : IsRewritten highs new_highs entry.slot) where
    old_key : (i : ℕ) → i < count → key new_highs (set heap count entry) i ≡ key highs heap i
    old_key i low =
        other_key heap places (count + 1) count entry added_hole new_highs i (λ e. absurd (omega (arith, low, e))) ∙ key_kept highs new_highs entry.slot heap i w (other_slots i low)

    pub added_order : IsHeap (key highs heap) count → IsRising (key new_highs (set heap count entry)) count (count + 1)
    added_order h = record { others = λ p k a b c ne. grind (arith, ints, old_key p, old_key k, h.order p k a b); around = λ k low a b c. absurd (omega (arith, low, a, c)) }

    pub added_entries : (last_heap : List Entry) (last_places : List ℕ) → IsMended new_highs entry heap places last_heap last_places (count + 1)
        → map (held new_highs (count + 1) last_heap) last_places ≡ set (map (held highs count heap) places) entry.slot (Some (moment_in new_highs entry))
    added_entries last_heap last_places d =
        put_entries heap places (count + 1) count entry added_hole new_highs last_heap last_places d (held highs count heap)
        (λ s low ne. sym (held_less new_highs count (count + 1) heap (get_or places s 0) refl (added_hole.elsewhere s low ne))
        ∙ held_kept highs new_highs entry.slot count heap (get_or places s 0) w (λ l. other_slots (get_or places s 0) l))

-- a slot whose moment is taken away
module _ (highs : List ℤ) (heap : List Entry) (places : List ℕ) (count last slot p : ℕ) (t : AreTables heap places count) (one_less : last + 1 ≡ count)
    (here : IsPlaceOf places count slot p) where
  free : HasHole heap places count p slot
  free = given_hole heap places count p slot t here

  last_in : last < count
  last_in = omega (arith, one_less)

  last_room : last < length heap
  last_room = omega (arith, last_in, t.count_limit)

  far : length heap ≤ absent
  far = omega (arith, t.size_limit)

  gone : get_or (set places slot absent) slot 0 ≡ absent
  gone = get_or-set_same places slot absent 0 here.known

  kept : (s : ℕ) → s ≢ slot → get_or (set places slot absent) s 0 ≡ get_or places s 0
  kept s ne = get_or-set_other places slot s absent 0 ne

  gone_size : length (set places slot absent) ≡ length heap
  gone_size = length-set places slot absent ∙ t.inverse.sizes

  -- where it was the last one, the others stay where they are
  pub dropped_tables : p ≡ last → AreTables heap (set places slot absent) last
  dropped_tables is = record {
    inverse = record {
      sizes = gone_size;
      slots = λ i l. t.inverse.slots i (omega (arith, l, last_in));
      there = λ i l. grind (arith, one_less, is, kept (slot_at heap i), free.apart i, t.inverse.there i);
      spots = λ s l h. grind (arith, gone, far, kept s, free.elsewhere s l, is, one_less, t.inverse.spots s l);
      back = λ s l h. grind (arith, gone, far, last_room, kept s, last_in, t.inverse.back s l);
    };
    count_limit = omega (arith, last_in, t.count_limit);
    size_limit = t.size_limit;
  }

  pub dropped_order : IsHeap (key highs heap) count → IsHeap (key highs heap) last
  dropped_order h = record { order = λ a b l m n. h.order a b l m (omega (arith, n, last_in)) }

  pub dropped_entries : p ≡ last → map (held highs last heap) (set places slot absent) ≡ set (map (held highs count heap) places) slot None
  dropped_entries is =
      entries_written (held highs count heap) (held highs last heap) places (set places slot absent) slot None
      (length-set places slot absent) here.known
      (ap (λ k. held highs last heap k) gone ∙ held_absent highs last heap absent (omega (arith, far, last_room)))
      (λ s ne h. grind (arith, nat_tests, kept s ne, free.elsewhere s (omega (arith, h, t.inverse.sizes)) ne))

  -- else the last one takes its place
  module _ (entry : Entry) (read : entry ≡ entry_at heap last) (ne_last : p ≢ last) where
    moved_slot : entry.slot ≡ slot_at heap last
    moved_slot = slot_by entry (entry_at heap last) read

    other_slot : slot ≢ entry.slot
    other_slot q = free.apart last last_in (λ e. ne_last (sym e)) (sym (q ∙ moved_slot))

    -- a slot that is neither stands before the last place or nowhere
    not_last : (s : ℕ) → s < length heap → s ≢ entry.slot → get_or places s 0 ≢ last
    not_last s l ne = not_at heap places count s last t.inverse last_in l (λ q. ne (q ∙ sym moved_slot))

    pub left_hole : HasHole heap (set places slot absent) last p entry.slot
    left_hole = record {
      sizes = gone_size;
      count_limit = omega (arith, last_room);
      size_limit = t.size_limit;
      place = omega (arith, ne_last, here.within, one_less);
      within = omega (arith, moved_slot, t.inverse.slots last last_in);
      slots = λ i l ne. t.inverse.slots i (omega (arith, l, last_in));
      there = λ i l ne. grind (arith, one_less, kept (slot_at heap i), free.apart i, t.inverse.there i);
      apart = λ i l ne q. grind (arith, one_less, moved_slot, t.inverse.there i, t.inverse.there last last_in);
      spots = λ s l ne h. grind (arith, gone, far, kept s, not_last s l ne, one_less, t.inverse.spots s l);
      elsewhere = λ s l ne q. grind (arith, gone, far, here.within, t.count_limit, kept s, free.elsewhere s l);
      back = λ s l ne h. grind (arith, gone, far, last_room, kept s, last_in, t.inverse.back s l);
    }

    pub left_order : IsHeap (key highs heap) count → IsHeapBut (key highs (set heap p entry)) p last
    left_order h = heap_but (key highs heap) (key highs (set heap p entry)) p count last
        (λ i l ne. (omega (arith, l, last_in), other_key heap (set places slot absent) last p entry left_hole highs i ne))
        h

    pub left_entries : (last_heap : List Entry) (last_places : List ℕ) → IsMended highs entry heap (set places slot absent) last_heap last_places last
        → map (held highs last last_heap) last_places ≡ set (map (held highs count heap) places) slot None
    left_entries last_heap last_places d =
        entries_written (held highs count heap) (held highs last last_heap) places last_places slot None
        (d.tables.inverse.sizes ∙ d.size ∙ sym t.inverse.sizes) here.known
        (d.same slot (omega (arith, free.within, d.size)) other_slot
        ∙ ap (λ k. held highs last heap k) gone
        ∙ held_absent highs last heap absent (omega (arith, far, last_room)))
        (λ s no h.
        let s_in : s < length heap = omega (arith, h, t.inverse.sizes) in
        ⊎_elim
        (λ (e : s ≡ entry.slot).
        let was : get_or places s 0 ≡ last = ap (λ k. get_or places k 0) (e ∙ moved_slot) ∙ t.inverse.there last last_in in
        ap (λ k. held highs last last_heap (get_or last_places k 0)) e ∙ d.own
        ∙ ap (λ (z : Entry). Some (moment_in highs z)) read
        ∙ sym (ap (λ k. held highs count heap k) was ∙ held_there highs count heap last last_in))
        (λ (ne : s ≢ entry.slot). d.same s (omega (arith, s_in, d.size)) ne ∙ grind (arith, nat_tests, kept s no, not_last s s_in ne))
        (cases_eq s entry.slot))

-- a slot that isn't there
none_at : (highs : List ℤ) (heap : List Entry) (places : List ℕ) (count s : ℕ) → (s < length places → count ≤ get_or places s 0)
    → get_or (map (held highs count heap) places) s None ≡ None
none_at highs heap places count s over = grind (
  arith,
  nat_tests,
  get_or-map (held highs count heap) places s 0 None,
  get_or_past (map (held highs count heap) places) s None,
  length-map places (held highs count heap),
)

pub absent_entries : (n : ℕ) (highs : List ℤ) (heap : List Entry) (places : List ℕ) (count slot : ℕ) → (slot < length places → count ≤ get_or places slot 0)
    → filled n None (map (held highs count heap) places) ≡ set (filled n None (map (held highs count heap) places)) slot None
absent_entries n highs heap places count slot over =
    let moments = map (held highs count heap) places in
    let all = filled n None moments in
    let none : get_or all slot None ≡ None = filled_at n None moments slot
    ∙ none_at highs heap places count slot (λ low. over low) in
    sym (ap (λ k. set all slot k) (sym none) ∙ set-get_or all slot None)

-- a slot that has this moment already
pub kept_entries : (highs : List ℤ) (heap : List Entry) (places : List ℕ) (count slot p : ℕ) (m : ℤ) → IsPlaceOf places count slot p → key highs heap p ≡ m
    → map (held highs count heap) places ≡ set (map (held highs count heap) places) slot (Some m)
kept_entries highs heap places count slot p m here is =
    let moments = map (held highs count heap) places in
    let there : get_or moments slot None ≡ Some m = get_or-map (held highs count heap) places slot 0 None here.known
    ∙ ap (λ k. held highs count heap k) (sym here.place) ∙ held_there highs count heap p here.within ∙ ap (λ (z : ℤ). Some z) is in
    sym (ap (λ k. set moments slot k) (sym there) ∙ set-get_or moments slot None)

-- the least
held_is : (highs : List ℤ) (count : ℕ) (heap : List Entry) (p : ℕ) (m : ℤ) → held highs count heap p ≡ Some m → (p < count) × (key highs heap p ≡ m)
held_is highs count heap p m is = (grind (arith, nat_tests), grind (arith, nat_tests))

pub no_least : (n : ℕ) (highs : List ℤ) (heap : List Entry) (places : List ℕ) (count : ℕ) → count ≡ 0 → IsLeastSlot (filled n None (map (held highs count heap) places)) None
no_least n highs heap places count z = λ s. filled_at n None (map (held highs count heap) places) s ∙ none_at highs heap places count s (λ low. omega (arith, z))

pub root_is_least : (highs : List ℤ) (heap : List Entry) (places : List ℕ) (count : ℕ) → AreTables heap places count → IsHeap (key highs heap) count → 0 < count
    → IsLeastSlot (map (held highs count heap) places) (Some (slot_at heap 0, key highs heap 0))
root_is_least highs heap places count t h some =
    let slot_in : slot_at heap 0 < length places = omega (arith, t.inverse.slots 0 some, t.inverse.sizes) in (
      get_or-map (held highs count heap) places (slot_at heap 0) 0 None slot_in ∙ ap (λ k. held highs count heap k) (t.inverse.there 0 some) ∙ held_there highs count heap 0 some,
      λ s m is. ⊎_elim
          (λ (low : s < length places).
          let there = held_is highs count heap (get_or places s 0) m (sym (get_or-map (held highs count heap) places s 0 None low) ∙ is) in
          subst (λ z. key highs heap 0 ≤ℤ z) there.1 (root_least (key highs heap) count (get_or places s 0) h there.0))
          (λ (high : length places ≤ s).
          let no : None ≡ Some m = sym (get_or_past (map (held highs count heap) places) s None (omega (arith, high, length-map places (held highs count heap)))) ∙ is in absurd (cc))
          (cases_lt s (length places)),
    )
