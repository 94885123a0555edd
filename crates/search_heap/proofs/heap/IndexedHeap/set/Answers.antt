use Rattle.std.proofs.Common.{◌≡◌, ℕ, ◌+◌, ◌<◌, ◌≤◌, ◌^◌, length, get_or, map, set, ap, ap₂, ◌∙◌, subst, sym, arith, rules, List, Option, Some, None, ℤ}
use Rattle.std.proofs.lemmas.List.{get_or_read, length-map}
use Rattle.std.proofs.lemmas.Int.{to_z-of_z}
use mir.Val.{SFits, to_z, of_z}
use mir.Syntax.{w128}
use Rattle.search_heap.specs.declared.entry.Entry.{Entry}
use Rattle.search_heap.specs.Heaps.{absent, blank, filled, held, moment_in, key, IsPlaceOf, IsRewritten, IsReserved}
use Rattle.search_heap.proofs.EntryAt.{entry_at}
use Rattle.search_heap.proofs.Readings.{key_by}
use Rattle.search_heap.proofs.Changes.{slots_long, kept_entries, given_hole, given_entries, given_rises, given_sinks, added_hole, added_order, added_entries}
use Rattle.search_heap.proofs.Fillings.{filled_set, filled_some}
use Rattle.search_heap.proofs.Layings.{AreLaid, laid_out}
use Rattle.search_heap.proofs.heap.IndexedHeap.set.Goals.{In-Some, After-moment-was, After-new-entry, After-new-entry-2}
use Rattle.search_heap.proofs.heap.IndexedHeap.set.Goals as goal

pub new-entry-requires : goal.new-entry-requires
new-entry-requires c = omega (arith, c.requires, slots_long c.self.inside c.args.self.now c.self.invariant c.self.view_is)

pub new-entry-requires-2 : goal.new-entry-requires-2
new-entry-requires-2 c = omega (arith, c.requires, slots_long c.self.inside c.args.self.now c.self.invariant c.self.view_is)

-- where the slot has no moment
laid : (c : After-new-entry) → AreLaid c.self.inside.highs c.self.inside.heap.items c.self.inside.places.items
    c.lay_out.new.heap.items c.lay_out.new.places.items c.self.inside.count (length c.self.inside.highs) c.new-entry.result.slot
laid c =
    let a = c.self.inside in
    let s = c.self.invariant in
    let slots : c.slots.result ≡ length a.highs = c.slots.ensures in
    let fits : c.slots.result < 2 ^ 32 = search rules in
    subst (AreLaid a.highs a.heap.items a.places.items c.lay_out.new.heap.items c.lay_out.new.places.items a.count (length a.highs)) (sym c.new-entry.ensures.slot)
    (laid_out a.highs a.heap.items a.places.items c.lay_out.new.heap.items c.lay_out.new.places.items a.count (length a.highs) c.args.slot
    s.tables s.order s.heap_room.whole (omega (arith, slots, fits)) (omega (arith, c.requires, slots_long a c.args.self.now s c.self.view_is))
    (subst (λ l. c.args.slot < length l → a.count ≤ get_or l c.args.slot 0) c.deref.ensures.value c.in_default.ensures.none)
    (subst (λ n. c.lay_out.new.heap.items ≡ filled n blank a.heap.items) slots c.lay_out.ensures.heap)
    (subst (λ n. c.lay_out.new.places.items ≡ filled n absent a.places.items) slots c.lay_out.ensures.places))

within : (c : After-new-entry) → c.new-entry.result.slot < length c.lay_out.new.heap.items
within c =
    omega (arith, c.requires, slots_long c.self.inside c.args.self.now c.self.invariant c.self.view_is, c.new-entry.ensures.slot, (laid c).size)

rewritten : (c : After-new-entry) → IsRewritten c.self.inside.highs c.new-entry.new.highs c.new-entry.result.slot
rewritten c = subst (IsRewritten c.self.inside.highs c.new-entry.new.highs) (sym c.new-entry.ensures.slot) c.new-entry.ensures.highs

pub rise-requires : goal.rise-requires
rise-requires c =
    let x = (goal.at.rise-requires c).After-new-entry in
    let d = laid x in
    record {
      tables = added_hole c.lay_out.new.heap.items c.lay_out.new.places.items c.self.inside.count c.new-entry.result d.tables (within x) d.behind;
      order = added_order c.lay_out.new.heap.items c.lay_out.new.places.items c.self.inside.count c.new-entry.result d.tables (within x) d.behind
          c.self.inside.highs c.new-entry.new.highs (rewritten x) d.order;
    }

pub returns-in_default : goal.returns-in_default
returns-in_default c =
    let x = (goal.at.returns-in_default c).After-new-entry in
    let d = laid x in
    let a = c.self.inside in
    let highs = c.new-entry.new.highs in
    let f = held highs (a.count + 1) c.rise.new.heap.items in
    filled_some (length highs) None (map f c.rise.new.places.items)
    (omega (arith, c.rise.ensures.tables.count_limit, c.rise.ensures.tables.inverse.sizes, length-map c.rise.new.places.items f))
    ∙ added_entries c.lay_out.new.heap.items c.lay_out.new.places.items a.count c.new-entry.result d.tables (within x) d.behind a.highs highs (rewritten x)
    c.rise.new.heap.items c.rise.new.places.items c.rise.ensures
    ∙ ap (λ (xs : List (Option ℤ)). set xs c.new-entry.result.slot (Some (moment_in highs c.new-entry.result))) (d.entries ∙ c.self.view_is)
    ∙ ap₂ (λ (s : ℕ) (z : ℤ). set c.args.self.now s (Some z)) c.new-entry.ensures.slot (c.new-entry.ensures.moment ∙ to_z-of_z w128 c.args.moment c.ranges.moment)

-- where it has one
here : (c : In-Some) → IsPlaceOf c.self.inside.places.items c.self.inside.count c.args.slot c.in-Some.place
here c = subst (λ l. IsPlaceOf l c.self.inside.count c.args.slot c.in-Some.place) c.deref.ensures.value c.in-Some.ensures.some

some_there : (c : In-Some) → 0 < length (map (held c.self.inside.highs c.self.inside.count c.self.inside.heap.items) c.self.inside.places.items)
some_there c =
    let a = c.self.inside in
    omega (arith, (here c).known, length-map a.places.items (held a.highs a.count a.heap.items))

old_key : (c : After-moment-was) → c.in-Some.place < c.self.inside.count → key c.self.inside.highs c.self.inside.heap.items c.in-Some.place ≡ to_z w128 (of_z w128 c.moment-was.result)
old_key c within =
    let a = c.self.inside in
    let read : c.index.result.now ≡ entry_at a.heap.items c.in-Some.place =
    get_or_read a.heap.items c.in-Some.place c.index.result.now (omega (arith, within, c.self.invariant.tables.count_limit)) c.index.ensures blank in
    let fits : SFits w128 c.moment-was.result = search rules in
    sym (key_by a.highs c.index.result.now (entry_at a.heap.items c.in-Some.place) read) ∙ sym c.moment-was.ensures ∙ sym (to_z-of_z w128 c.moment-was.result fits)

pub returns-then-keeps : goal.returns-then-keeps
returns-then-keeps c =
    let x = (goal.at.returns-then-keeps c).In-Some in
    let y = (goal.at.returns-then-keeps c).After-moment-was in
    let a = c.self.inside in
    let p = c.in-Some.place in
    let moments = map (held a.highs a.count a.heap.items) a.places.items in
    let moment : key a.highs a.heap.items p ≡ c.args.moment = old_key y (here x).within ∙ c.keeps.ensures c.if-keeps.true ∙ to_z-of_z w128 c.args.moment c.ranges.moment in
    subst (λ (xs : List (Option ℤ)). xs ≡ set xs c.args.slot (Some c.args.moment)) c.self.view_is
    (filled_set (length a.highs) (length a.highs) None moments moments c.args.slot (Some c.args.moment) (some_there x)
    (kept_entries a.highs a.heap.items a.places.items a.count c.args.slot p c.args.moment (here x) moment))

there : (c : After-new-entry-2) → IsPlaceOf c.self.inside.places.items c.self.inside.count c.new-entry-2.result.slot c.in-Some.place
there c = subst (λ s. IsPlaceOf c.self.inside.places.items c.self.inside.count s c.in-Some.place) (sym c.new-entry-2.ensures.slot)
    (subst (λ l. IsPlaceOf l c.self.inside.count c.args.slot c.in-Some.place) c.deref.ensures.value c.in-Some.ensures.some)

rewritten_there : (c : After-new-entry-2) → IsRewritten c.self.inside.highs c.new-entry-2.new.highs c.new-entry-2.result.slot
rewritten_there c = subst (IsRewritten c.self.inside.highs c.new-entry-2.new.highs) (sym c.new-entry-2.ensures.slot) c.new-entry-2.ensures.highs

pub renew-requires : goal.renew-requires
renew-requires c =
    let x = (goal.at.renew-requires c).After-new-entry-2 in
    let y = (goal.at.renew-requires c).After-moment-was in
    let a = c.self.inside in
    let entry : Entry = c.new-entry-2.result in
    let old = to_z w128 (of_z w128 c.moment-was.result) in
    let new = to_z w128 (of_z w128 c.args.moment) in
    record {
      tables = given_hole a.heap.items a.places.items a.count c.in-Some.place entry.slot c.self.invariant.tables (there x);
      later = given_sinks a.heap.items a.places.items a.count c.in-Some.place entry c.self.invariant.tables (there x) a.highs c.new-entry-2.new.highs (rewritten_there x) old new
          (old_key y (there x).within) c.new-entry-2.ensures.moment c.self.invariant.order;
      sooner = given_rises a.heap.items a.places.items a.count c.in-Some.place entry c.self.invariant.tables (there x) a.highs c.new-entry-2.new.highs (rewritten_there x) old new
          (old_key y (there x).within) c.new-entry-2.ensures.moment c.self.invariant.order;
    }

pub returns : goal.returns
returns c =
    let x = (goal.at.returns c).After-new-entry-2 in
    let a = c.self.inside in
    let entry : Entry = c.new-entry-2.result in
    let highs = c.new-entry-2.new.highs in
    filled_set (length a.highs) (length highs) None (map (held a.highs a.count a.heap.items) a.places.items)
    (map (held highs a.count c.renew.new.heap.items) c.renew.new.places.items) entry.slot (Some (moment_in highs entry)) (some_there (goal.at.returns c).In-Some)
    (given_entries a.heap.items a.places.items a.count c.in-Some.place entry c.self.invariant.tables (there x) a.highs highs (rewritten_there x)
    c.renew.new.heap.items c.renew.new.places.items c.renew.ensures)
    ∙ ap (λ (xs : List (Option ℤ)). set xs entry.slot (Some (moment_in highs entry))) c.self.view_is
    ∙ ap₂ (λ (s : ℕ) (z : ℤ). set c.args.self.now s (Some z)) c.new-entry-2.ensures.slot (c.new-entry-2.ensures.moment ∙ to_z-of_z w128 c.args.moment c.ranges.moment)

reserved : (size long capacity : ℕ) → 0 < long → long ≡ size → IsReserved size long capacity
reserved size long capacity some is = record { whole = λ _. is; room = λ none. absurd (omega (arith, some, none)) }

pub invariant_of-self : goal.invariant_of-self
invariant_of-self c =
    let x = (goal.at.invariant_of-self c).After-new-entry in
    let r = c.rise.ensures in
    let some : 0 < length c.rise.new.heap.items = omega (arith, within x, r.size) in
    let long : length c.rise.new.heap.items ≡ length c.new-entry.new.highs = omega (arith, r.size, (laid x).size, c.new-entry.ensures.highs.size) in
    let sizes = r.tables.inverse.sizes in
    record { tables = r.tables; order = r.order; heap_room = reserved _ _ _ some long; places_room = reserved _ _ _ (omega (arith, some, sizes)) (sizes ∙ long) }

pub invariant_of-self-2 : goal.invariant_of-self-2
invariant_of-self-2 c =
    let r = c.renew.ensures in
    let was : 0 < length c.self.inside.heap.items = omega (arith, (here (goal.at.invariant_of-self-2 c).In-Some).within, c.self.invariant.tables.count_limit) in
    let some : 0 < length c.renew.new.heap.items = omega (arith, was, r.size) in
    let long = r.size ∙ c.self.invariant.heap_room.whole was ∙ sym c.new-entry-2.ensures.highs.size in
    let sizes = r.tables.inverse.sizes in
    record { tables = r.tables; order = r.order; heap_room = reserved _ _ _ some long; places_room = reserved _ _ _ (omega (arith, some, sizes)) (sizes ∙ long) }
