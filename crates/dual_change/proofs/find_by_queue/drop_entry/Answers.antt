use Rattle.alt_forest.proofs.Common.{refl, sym, ap, subst, arith, Moments, None, IsSound, only_items_have, IsQueued, entry_count}
use Rattle.alt_forest.specs.declared.search.Search.{Search}
use Rattle.alt_forest.proofs.Queues.{sound_set}
use Rattle.dual_change.specs.Candidates.{entries_left}
use Rattle.dual_change.proofs.Dropped.{Drops, dropped, drops_one, one_dropped, looks_dropped}
use Rattle.dual_change.proofs.find_by_queue.drop_entry.Goals as goal

pub remove-requires : goal.remove-requires
remove-requires c = only_items_have c.args.search.now.queue c.args.item c.requires.has.0 c.requires.has.1

pub returns : goal.returns
returns c =
    let s : Search = c.args.search.now in let has = c.requires.has in
    let place = only_items_have s.queue c.args.item has.0 has.1 in
    let sound = subst (λ (q : Moments). IsSound (record s { queue = q })) (sym c.remove.ensures) (sound_set s c.args.item None c.requires.sound) in
    let queued = subst (λ (q : Moments). IsQueued (record s { queue = q })) (sym c.remove.ensures) (dropped s c.args.item place c.requires.stale c.requires.event_times) in
    let drops = subst (Drops s.queue) (sym c.remove.ensures) (drops_one s.queue c.args.item place) in
    let left = one_dropped s.queue c.args.item has.0 has.1 in
    let count = looks_dropped s.queue c.args.item has.0 has.1 in let e = c.remove.ensures in
    record { frame = refl; sound = sound; event_times = queued; drops = drops; left = omega (arith, ap entries_left e, left); count = omega (arith, ap entry_count e, count) }
