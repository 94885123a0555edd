use Rattle.graph_theory.proofs.Common.{◌≡◌, ◌∙◌, ◌-◌, ℤ, pos, List, ap, subst, arith, ints, rules, get_or_read, to_z, of_z, w64}
use Rattle.search_heap.specs.declared.buckets.Buckets.{Buckets}
use Rattle.search_heap.specs.Rising.{IsInBucket, end_at, kept_moment}
use Rattle.search_heap.proofs.Filings.{none_left, refile_ends, refile_steps, some_is, waits_after}
use Rattle.search_heap.proofs.buckets.Buckets.refile.Goals as goal

pub returns-in_default-clause-filed : goal.returns-in_default-clause-filed
returns-in_default-clause-filed c = let r = c.loop.invariant.refiling in refile_ends c.loop.self c.loop.counter r (c.in_default.ensures.none r.home r.homed)

pub index-requires : goal.index-requires
index-requires c = let r = c.loop.invariant.refiling in omega (arith, (c.in-Some.ensures.some r.home r.homed).0, r.homed.moments)

pub index-requires-in-loop : goal.index-requires-in-loop
index-requires-in-loop c = let r = c.loop.invariant.refiling in omega (arith, (c.in-Some.ensures.some r.home r.homed).0, r.homed.early)

pub list_of-list-requires-clause-low : goal.list_of-list-requires-clause-low
list_of-list-requires-clause-low c =
    let l = c.loop in let r = l.invariant.refiling in let x = c.in-Some.slot in let found = c.in-Some.ensures.some r.home r.homed in
    let whole : to_z w64 (of_z w64 c.index.result.now) ≡ c.index.result.now = search rules in
    let read : c.index.result.now ≡ kept_moment l.self x = get_or_read l.self.moments.items x c.index.result.now (omega (arith, found.0, r.homed.moments)) c.index.ensures (pos 0) in
    omega (arith, ints, whole, read, ap (λ (es : List ℤ). end_at es 0) c.deref.ensures.value, waits_after l.self l.counter x r found.1)

pub shift-requires-clause-slot : goal.shift-requires-clause-slot
shift-requires-clause-slot c = let r = c.loop.invariant.refiling in (c.in-Some.ensures.some r.home r.homed).0

pub loop-preserved : goal.loop-preserved
loop-preserved c =
    let l = c.loop in let r = l.invariant.refiling in let x = c.in-Some.slot in let found = c.in-Some.ensures.some r.home r.homed in let some = some_is r.home x 66 found.1 in
    let whole : to_z w64 (of_z w64 c.index.result.now) ≡ c.index.result.now = search rules in
    let read : c.index.result.now ≡ kept_moment l.self x = get_or_read l.self.moments.items x c.index.result.now (omega (arith, found.0, r.homed.moments)) c.index.ensures (pos 0) in
    let fits : IsInBucket l.self.ends.items (c.list_of-list.result - 1) (kept_moment l.self x) =
    subst (λ (z : ℤ). IsInBucket l.self.ends.items (c.list_of-list.result - 1) z) (whole ∙ read)
    (subst (λ (es : List ℤ). IsInBucket es (c.list_of-list.result - 1) (to_z w64 (of_z w64 c.index.result.now))) c.deref.ensures.value c.list_of-list.ensures) in
    record {
      refiling = refile_steps l.self c.shift.new.self l.counter x c.list_of-list.result r c.shift.ensures.frame found.1 fits (c.shift.ensures.homed r.home r.homed some);
      moments = c.shift.ensures.moments r.home r.homed some ∙ l.invariant.moments;
      frame = c.shift.ensures.frame ∙ ap (λ (y : Buckets). let z : Buckets = record y { lists = c.shift.new.self.lists } in z) l.invariant.frame;
    }

pub returns-clause-filed : goal.returns-clause-filed
returns-clause-filed c =
    let l = c.loop in let r = l.invariant.refiling in
    let slots : l.self.slots ≡ c.args.self.now.slots = ap (λ (y : Buckets). y.slots) l.invariant.frame in
    refile_ends l.self l.counter r (none_left l.self r.home 66 l.counter r.homed r.count_limit (omega (arith, slots, c.loop-test.false)))
