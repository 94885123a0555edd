use Rattle.std.proofs.Common.{◌≡◌, subst, arith}
use Rattle.std.proofs.lemmas.List.{get_or_read}
use Rattle.search_heap.proofs.Readings.{slot_by}
use Rattle.search_heap.proofs.sift.sink.Goals.{After-index-below}
use Rattle.search_heap.specs.Heaps.{blank, moment_in, key, IsEarlierChild, NoEarlierChild}
use Rattle.search_heap.proofs.EntryAt.{entry_at}
use Rattle.search_heap.proofs.Moves.{sink_moves, sink_ends}
use Rattle.search_heap.proofs.Sifts.{sift_starts, sift_ends}
use Rattle.search_heap.proofs.sift.sink.Goals as goal

-- the child that is read
earlier : (c : After-index-below) → IsEarlierChild (key c.args.highs.now c.loop-child.heap.items) (moment_in c.args.highs.now c.args.entry) c.args.count c.loop-child.place c.in-Some.child
earlier c =
    subst (λ h. IsEarlierChild (key c.args.highs.now h) (moment_in c.args.highs.now c.args.entry) c.args.count c.loop-child.place c.in-Some.child)
    c.deref.ensures.value c.in-Some.ensures.some

below : (c : After-index-below) → c.index-below.result.now ≡ entry_at c.loop-child.heap.items c.in-Some.child
below c =
    get_or_read c.loop-child.heap.items c.in-Some.child c.index-below.result.now
    (omega (arith, (earlier c).child.within, c.loop-child.invariant.sifting.hole.count_limit)) c.index-below.ensures blank

pub loop-child-preserved : goal.loop-child-preserved
loop-child-preserved c =
    let x = (goal.at.loop-child-preserved c).After-index-below in
    let l = c.loop-child in
    let moved = sink_moves c.args.highs.now c.args.heap.now.items c.args.places.now.items l.heap.items l.places.items c.args.count l.place c.args.entry l.invariant.sifting
    c.in-Some.child c.index-below.result.now c.put.new.heap.items c.put.new.places.items (earlier x) (below x) c.put.ensures.heap c.put.ensures.places l.invariant.order in
    record { sifting = moved.0; order = moved.1 }

pub loop-child-init : goal.loop-child-init
loop-child-init c = record { sifting = sift_starts _ _ _ _ _ _ c.requires.tables; order = c.requires.order }

pub put-requires-clause-slot : goal.put-requires-clause-slot
put-requires-clause-slot c =
    let x = (goal.at.put-requires-clause-slot c).After-index-below in
    let slots = c.loop-child.invariant.sifting.hole.slots c.in-Some.child (earlier x).child.within (λ e. absurd (omega (arith, (earlier x).child.low))) in
    omega (arith, slots, slot_by _ _ (below x), c.loop-child.invariant.sifting.hole.sizes)

pub returns : goal.returns
returns c =
    let l = c.loop-child in
    let last = subst (λ h. NoEarlierChild (key c.args.highs.now h) (moment_in c.args.highs.now c.args.entry) c.args.count l.place) c.deref.ensures.value c.in_default.ensures.none in
    sift_ends _ _ _ _ _ _ _ _ c.put-2.new.heap.items c.put-2.new.places.items l.invariant.sifting c.put-2.ensures.heap c.put-2.ensures.places
    (sink_ends _ _ _ _ _ _ _ _ l.invariant.sifting last l.invariant.order)
