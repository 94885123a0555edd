use Rattle.alt_forest.proofs.Common.{◌≢◌, ◌∙◌, inl, inr, refl, sym, ap, subst, ⊎_elim, arith, rules, both_ways, IsLeast, IsPlanted, state_of}
use Rattle.alt_forest.specs.declared.search.Search.{Search}
use Rattle.dual_change.specs.declared.event.Next.TheVariants.{Stuck}
use Rattle.dual_change.proofs.Found.{first_next, stuck_next, least_before, none_needed}
use Rattle.dual_change.proofs.Dropped.{still_tree_nodes}
use Rattle.dual_change.proofs.Due.{comes_at}
use Rattle.dual_change.proofs.find_by_queue.find.Goals as goal

pub loop-item-init : goal.loop-item-init
loop-item-init g c = record { frame = refl; sound = c.requires.sound; event_times = c.requires.event_times; drops = λ item. inl refl; count = omega arith; look = omega arith }

pub by_item-next-requires-clause-same_graph : goal.by_item-next-requires-clause-same_graph
by_item-next-requires-clause-same_graph g c = c.requires.same_graph ∙ sym (ap (λ (x : Search). x.graph) c.loop-item.invariant.frame)

pub by_item-next-requires-clause-listed : goal.by_item-next-requires-clause-listed
by_item-next-requires-clause-listed g c = still_tree_nodes c.args.search.now c.loop-item.search c.loop-item.invariant.frame c.requires.listed

pub by_item-next-requires-clause-all_rooted : goal.by_item-next-requires-clause-all_rooted
by_item-next-requires-clause-all_rooted g c = subst (λ (x : Search). IsPlanted (state_of x)) (sym c.loop-item.invariant.frame) c.requires.all_rooted

pub drop_entry-requires : goal.drop_entry-requires
drop_entry-requires g c =
    let least = subst (IsLeast c.loop-item.search.queue) c.in-Some.is c.earliest.ensures in
    let i = c.loop-item.invariant in
    record { sound = i.sound; event_times = i.event_times; has = (c.in-Some.moment, least.0); stale = c.by_item-next.ensures.stale (c.comes.ensures.0 c.if-comes.false) }

pub loop-item-preserved : goal.loop-item-preserved
loop-item-preserved g c =
    let i = c.loop-item.invariant in let e = c.drop_entry.ensures in
    record {
      frame = e.frame ∙ ap (λ (x : Search). record x { queue = c.drop_entry.new.search.queue }) i.frame;
      sound = e.sound;
      event_times = e.event_times;
      drops = λ item. ⊎_elim (λ q. ⊎_elim (λ p. inl (q ∙ p)) (λ p. inr (q ∙ p)) (i.drops item)) inr (e.drops item);
      count = omega (arith, i.count, e.count, c.by_item-next.ensures.step);
      look = omega (arith, i.look, c.by_item-next.ensures.step);
    }

pub loop-item-smaller : goal.loop-item-smaller
loop-item-smaller g c = c.drop_entry.ensures.left

pub returns-then-comes : goal.returns-then-comes
returns-then-comes g c =
    let s : Search = c.loop-item.search in let i = c.loop-item.invariant in let b = c.by_item-next.ensures in
    let there : c.by_item-next.result ≢ Stuck = λ q. both_ways c.comes.result (c.comes.ensures.1 q) c.if-comes.true in
    let first = first_next s i.sound c.in-Some.moment c.by_item-next.result b.candidate (comes_at _ _ _ _ (search rules) b.comes) there
    (least_before s c.in-Some.item c.in-Some.moment i.event_times (subst (IsLeast s.queue) c.in-Some.is c.earliest.ensures)) in
    record {
      found = first.0;
      within = first.1;
      frame = i.frame;
      sound = i.sound;
      event_times = i.event_times;
      drops = i.drops;
      listed = still_tree_nodes c.args.search.now s i.frame c.requires.listed;
      all_rooted = subst (λ (x : Search). IsPlanted (state_of x)) (sym i.frame) c.requires.all_rooted;
      count = omega (arith, i.count, b.step, b.inspections there);
      look = omega (arith, i.look, b.step, b.inspections there);
    }

pub returns : goal.returns
returns g c =
    let s : Search = c.loop-item.search in let i = c.loop-item.invariant in let r = i.frame in
    let f = stuck_next s i.sound (none_needed s i.event_times (subst (IsLeast s.queue) c.in_default.is c.earliest.ensures)) in
    let st = still_tree_nodes c.args.search.now s r c.requires.listed in
    let p = subst (λ (x : Search). IsPlanted (state_of x)) (sym r) c.requires.all_rooted in let d = i.drops in
    record {
      found = f;
      within = tt;
      frame = r;
      sound = i.sound;
      event_times = i.event_times;
      drops = d;
      listed = st;
      all_rooted = p;
      count = omega (arith, i.count);
      look = omega (arith, i.look);
    }
