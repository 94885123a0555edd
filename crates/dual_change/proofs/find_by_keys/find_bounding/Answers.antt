use Rattle.alt_forest.proofs.Common.{ap, arith, subst, sym, rules, both_ways, IsLeast}
use Rattle.alt_forest.specs.declared.search.Search.{Search}
use Rattle.search_keys.specs.declared.bounds.EventBounds.{EventBounds}
use Rattle.search_keys.specs.Bounds.{IsBounding}
use Rattle.search_keys.specs.Looks.{stale_ends}
use Rattle.dual_change.proofs.Found.{first_next, stuck_next, bound_before, none_bound}
use Rattle.dual_change.proofs.Due.{comes_at}
use Rattle.dual_change.proofs.find_by_keys.find_bounding.Goals as goal

pub returns-then-comes : goal.returns-then-comes
returns-then-comes g c =
    let s : Search = c.args.search.now in let i = c.loop-item.invariant in let e = c.by_item-next.ensures in
    let least = subst (IsLeast c.loop-item.bounds.moments) c.in-Some.is c.earliest.ensures.least in
    let first = first_next s c.requires.sound c.in-Some.moment c.by_item-next.result e.candidate (comes_at _ _ _ _ (search rules) e.comes)
    (λ q. both_ways c.comes.result (c.comes.ensures.1 q) c.if-comes.true)
    (bound_before s c.loop-item.bounds c.in-Some.item c.in-Some.moment c.requires.sound i.vertex_keys least) in
    record {
      found = first.0;
      within = first.1;
      vertex_keys = e.vertex_keys;
      count = omega (arith, i.count, e.count, ap (stale_ends s) c.earliest.ensures.same);
      look = omega (arith, i.inspections, e.look);
    }

pub returns : goal.returns
returns g c =
    let s : Search = c.args.search.now in let b : EventBounds = c.loop-item.bounds in
    let i = c.loop-item.invariant in
    let found = stuck_next s c.requires.sound (none_bound s b c.requires.sound i.vertex_keys (subst (IsLeast b.moments) c.in_default.is c.earliest.ensures.least)) in
    record {
      found = found;
      within = tt;
      vertex_keys = subst (IsBounding s) (sym c.earliest.ensures.same) i.vertex_keys;
      count = omega (arith, i.count, ap (stale_ends s) c.earliest.ensures.same);
      look = omega (arith, i.inspections);
    }
