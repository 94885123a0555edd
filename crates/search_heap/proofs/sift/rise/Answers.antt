use Rattle.std.proofs.Common.{◌≡◌, subst, arith, ◌<◌, ◌-◌, ◌/◌, ◌≤ℤ◌}
use Rattle.std.proofs.lemmas.List.{get_or_read}
use Rattle.search_heap.proofs.Readings.{slot_by}
use Rattle.search_heap.proofs.sift.rise.Goals.{After-index-above}
use Rattle.search_heap.specs.Heaps.{blank, moment_in, key, IsLaterParent}
use Rattle.search_heap.proofs.EntryAt.{entry_at}
use Rattle.search_heap.proofs.Moves.{rise_moves, rise_ends}
use Rattle.search_heap.proofs.Sifts.{sift_starts, sift_ends}
use Rattle.search_heap.proofs.sift.rise.Goals as goal

-- the parent that is read
later : (c : After-index-above) → IsLaterParent (key c.args.highs.now c.loop-parent.heap.items) (moment_in c.args.highs.now c.args.entry) c.loop-parent.place c.in-Some.parent
later c =
    subst (λ h. IsLaterParent (key c.args.highs.now h) (moment_in c.args.highs.now c.args.entry) c.loop-parent.place c.in-Some.parent) c.deref.ensures.value c.in-Some.ensures.some

above : (c : After-index-above) → c.index-above.result.now ≡ entry_at c.loop-parent.heap.items c.in-Some.parent
above c =
    let s = c.loop-parent.invariant.sifting in
    get_or_read c.loop-parent.heap.items c.in-Some.parent c.index-above.result.now
    (omega (arith, (later c).parent, (later c).below, s.hole.place, s.hole.count_limit)) c.index-above.ensures blank

pub loop-parent-preserved : goal.loop-parent-preserved
loop-parent-preserved c =
    let x = (goal.at.loop-parent-preserved c).After-index-above in
    let l = c.loop-parent in
    let moved = rise_moves c.args.highs.now c.args.heap.now.items c.args.places.now.items l.heap.items l.places.items c.args.count l.place c.args.entry l.invariant.sifting
    c.in-Some.parent c.index-above.result.now c.put.new.heap.items c.put.new.places.items (later x) (above x) c.put.ensures.heap c.put.ensures.places l.invariant.order in
    record { sifting = moved.0; order = moved.1 }

pub loop-parent-init : goal.loop-parent-init
loop-parent-init c = record { sifting = sift_starts _ _ _ _ _ _ c.requires.tables; order = c.requires.order }

pub put-requires-clause-slot : goal.put-requires-clause-slot
put-requires-clause-slot c =
    let x = (goal.at.put-requires-clause-slot c).After-index-above in
    let s = c.loop-parent.invariant.sifting in
    let slots = s.hole.slots c.in-Some.parent (omega (arith, (later x).parent, (later x).below, s.hole.place)) (λ e. absurd (omega (arith, (later x).parent, (later x).below))) in
    omega (arith, slots, slot_by _ _ (above x), s.hole.sizes)

pub returns : goal.returns
returns c =
    let l = c.loop-parent in
    let last = subst (λ h. 0 < l.place → key c.args.highs.now h ((l.place - 1) / 4) ≤ℤ moment_in c.args.highs.now c.args.entry) c.deref.ensures.value c.in_default.ensures.none in
    sift_ends _ _ _ _ _ _ _ _ c.put-2.new.heap.items c.put-2.new.places.items l.invariant.sifting c.put-2.ensures.heap c.put-2.ensures.places
    (rise_ends _ _ _ _ _ _ _ _ l.invariant.sifting last l.invariant.order)
