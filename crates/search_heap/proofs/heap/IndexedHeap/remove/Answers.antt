use Rattle.std.proofs.Common.{◌≡◌, ◌+◌, ◌-◌, ◌<◌, ◌≤◌, List, length, get_or, set, map, sym, ap, ◌∙◌, subst, arith, rules, Option, None, ℤ}
use Rattle.std.proofs.lemmas.List.{get_or_read, length-map}
use Rattle.search_heap.specs.Heaps.{blank, held, AreTables, HasHole, IsPlaceOf, IsMended}
use Rattle.search_heap.proofs.EntryAt.{entry_at}
use Rattle.search_heap.proofs.Changes.{absent_entries, dropped_tables, dropped_order, dropped_entries, left_hole, left_order, left_entries}
use Rattle.search_heap.proofs.Fillings.{filled_set}
use Rattle.search_heap.proofs.heap.IndexedHeap.remove.Goals.{After-wipe_place, After-index-last}
use Rattle.search_heap.proofs.heap.IndexedHeap.remove.Goals as goal

pub returns-in_default : goal.returns-in_default
returns-in_default c =
    let a = c.self.inside in
    subst (λ (xs : List (Option ℤ)). xs ≡ set xs c.args.slot None) c.self.view_is
    (absent_entries (length a.highs) a.highs a.heap.items a.places.items a.count c.args.slot
    (subst (λ l. c.args.slot < length l → a.count ≤ get_or l c.args.slot 0) c.deref.ensures.value c.in_default.ensures.none))

-- the slot and its place
here : (c : After-wipe_place) → IsPlaceOf c.self.inside.places.items c.self.inside.count c.args.slot c.in-Some.place
here c = subst (λ l. IsPlaceOf l c.self.inside.count c.args.slot c.in-Some.place) c.deref.ensures.value c.in-Some.ensures.some

some_there : (c : After-wipe_place) → 0 < length (map (held c.self.inside.highs c.self.inside.count c.self.inside.heap.items) c.self.inside.places.items)
some_there c =
    let a = c.self.inside in
    omega (arith, (here c).known, length-map a.places.items (held a.highs a.count a.heap.items))

one_less : (c : After-wipe_place) → c.self.inside.count - 1 + 1 ≡ c.self.inside.count
one_less c = omega (arith, (here c).within)

pub invariant_of-self : goal.invariant_of-self
invariant_of-self c =
    let x = (goal.at.invariant_of-self c).After-wipe_place in
    let a = c.self.inside in
    record {
      tables = subst (λ l. AreTables a.heap.items l (a.count - 1)) (sym c.wipe_place.ensures.items)
          (dropped_tables a.highs a.heap.items a.places.items a.count (a.count - 1) c.args.slot c.in-Some.place c.self.invariant.tables (one_less x) (here x) c.if-place-self.true);
      order = dropped_order a.highs a.heap.items a.places.items a.count (a.count - 1) c.args.slot c.in-Some.place c.self.invariant.tables (one_less x) (here x) c.self.invariant.order;
      heap_room = c.self.invariant.heap_room;
      places_room = search rules;
    }

pub returns-then-place-self : goal.returns-then-place-self
returns-then-place-self c =
    let x = (goal.at.returns-then-place-self c).After-wipe_place in
    let a = c.self.inside in
    filled_set (length a.highs) (length a.highs) None (map (held a.highs a.count a.heap.items) a.places.items)
    (map (held a.highs (a.count - 1) a.heap.items) c.wipe_place.new.places.items) c.args.slot None (some_there x)
    (ap (λ l. map (held a.highs (a.count - 1) a.heap.items) l) c.wipe_place.ensures.items
    ∙ dropped_entries a.highs a.heap.items a.places.items a.count (a.count - 1) c.args.slot c.in-Some.place c.self.invariant.tables (one_less x) (here x) c.if-place-self.true)
    ∙ ap (λ (xs : List (Option ℤ)). set xs c.args.slot None) c.self.view_is

-- the last entry, which takes that place
last_in : (c : After-wipe_place) → c.self.inside.count - 1 < length c.self.inside.heap.items
last_in c = omega (arith, (here c).within, c.self.invariant.tables.count_limit)

read : (c : After-index-last) → c.self.inside.count - 1 < length c.self.inside.heap.items → c.index-last.result.now ≡ entry_at c.self.inside.heap.items (c.self.inside.count - 1)
read c within = get_or_read c.self.inside.heap.items (c.self.inside.count - 1) c.index-last.result.now within c.index-last.ensures blank

pub settle-requires : goal.settle-requires
settle-requires c =
    let x = (goal.at.settle-requires c).After-wipe_place in
    let y = (goal.at.settle-requires c).After-index-last in
    let a = c.self.inside in
    record {
      tables = subst (λ l. HasHole a.heap.items l (a.count - 1) c.in-Some.place c.index-last.result.now.slot) (sym c.wipe_place.ensures.items)
          (left_hole a.highs a.heap.items a.places.items a.count (a.count - 1) c.args.slot c.in-Some.place c.self.invariant.tables (one_less x) (here x) c.index-last.result.now
          (read y (last_in x)) c.if-place-self.false);
      order = left_order a.highs a.heap.items a.places.items a.count (a.count - 1) c.args.slot c.in-Some.place c.self.invariant.tables (one_less x) (here x) c.index-last.result.now
          (read y (last_in x)) c.if-place-self.false c.self.invariant.order;
    }

pub returns : goal.returns
returns c =
    let x = (goal.at.returns c).After-wipe_place in
    let a = c.self.inside in
    let mended = subst (λ l. IsMended a.highs c.index-last.result.now a.heap.items l c.settle.new.heap.items c.settle.new.places.items (a.count - 1))
    c.wipe_place.ensures.items c.settle.ensures in
    filled_set (length a.highs) (length a.highs) None (map (held a.highs a.count a.heap.items) a.places.items)
    (map (held a.highs (a.count - 1) c.settle.new.heap.items) c.settle.new.places.items) c.args.slot None (some_there x)
    (left_entries a.highs a.heap.items a.places.items a.count (a.count - 1) c.args.slot c.in-Some.place c.self.invariant.tables (one_less x) (here x) c.index-last.result.now
    (read ((goal.at.returns c).After-index-last) (last_in x)) c.if-place-self.false
    c.settle.new.heap.items c.settle.new.places.items mended)
    ∙ ap (λ (xs : List (Option ℤ)). set xs c.args.slot None) c.self.view_is
