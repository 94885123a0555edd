use Rattle.graph_theory.proofs.Common.{◌≡◌, ◌∙◌, pos, refl, ap, arith, ints, rules, get_or_read, to_z, of_z, w64, inl, inr, ⊎_elim}
use Rattle.search_heap.specs.declared.buckets.Buckets.{Buckets}
use Rattle.search_heap.specs.Rising.{kept_moment}
use Rattle.search_heap.proofs.Filings.{gather_ends, gather_starts, gather_steps, none_left, some_is}
use Rattle.search_heap.proofs.buckets.Buckets.gather.Goals as goal

pub index-least-requires : goal.index-least-requires
index-least-requires c = let f = c.requires.filed in omega (arith, (c.requires.lowest f.home f.homed).within, f.homed.moments)

pub loop-init : goal.loop-init
loop-init c =
    let b = c.args.self.now in let f = c.requires.filed in let low = c.requires.lowest f.home f.homed in
    let kept : to_z w64 (of_z w64 c.index-least.result.now) ≡ c.index-least.result.now = search rules in
    record {
      gathering = gather_starts b f c.args.list c.args.slot _ low c.requires.first
          (kept ∙ get_or_read b.moments.items c.args.slot c.index-least.result.now (omega (arith, low.within, f.homed.moments)) c.index-least.ensures (pos 0));
      moments = refl;
      frame = refl;
    }

pub returns-in_default-clause-gathered : goal.returns-in_default-clause-gathered
returns-in_default-clause-gathered c =
    let g = c.loop.invariant.gathering in gather_ends c.loop.self c.args.list _ c.loop.counter g (c.in_default.ensures.none g.home g.homed)

pub index-requires : goal.index-requires
index-requires c = let g = c.loop.invariant.gathering in omega (arith, (c.in-Some.ensures.some g.home g.homed).0, g.homed.moments)

pub shift-requires-clause-slot : goal.shift-requires-clause-slot
shift-requires-clause-slot c = let g = c.loop.invariant.gathering in (c.in-Some.ensures.some g.home g.homed).0

pub loop-preserved : goal.loop-preserved
loop-preserved c =
    let l = c.loop in let g = l.invariant.gathering in let f = c.requires.filed in let found = c.in-Some.ensures.some g.home g.homed in
    let x = c.in-Some.next in let some = some_is g.home x c.args.list found.1 in let r = c.lesser-least.ensures in
    let kept : to_z w64 (of_z w64 c.lesser-least.result) ≡ c.lesser-least.result = search rules in
    let whole : to_z w64 (of_z w64 c.index.result.now) ≡ c.index.result.now = search rules in
    let read : c.index.result.now ≡ kept_moment l.self x = get_or_read l.self.moments.items x c.index.result.now (omega (arith, found.0, g.homed.moments)) c.index.ensures (pos 0) in
    record {
      gathering = gather_steps l.self c.shift.new.self c.args.list _ _ l.counter x g (c.requires.lowest f.home f.homed).high c.shift.ensures.frame found.1
          (c.shift.ensures.homed g.home g.homed some) (omega (arith, ints, kept, r.one)) (omega (arith, ints, kept, whole, read, r.other))
          (⊎_elim (λ e. inl (omega (arith, ints, kept, e))) (λ e. inr (omega (arith, ints, kept, whole, read, e))) r.either);
      moments = c.shift.ensures.moments g.home g.homed some ∙ l.invariant.moments;
      frame = c.shift.ensures.frame ∙ ap (λ (y : Buckets). let z : Buckets = record y { lists = c.shift.new.self.lists } in z) l.invariant.frame;
    }

pub returns-clause-gathered : goal.returns-clause-gathered
returns-clause-gathered c =
    let l = c.loop in let g = l.invariant.gathering in
    let slots : l.self.slots ≡ c.args.self.now.slots = ap (λ (y : Buckets). y.slots) l.invariant.frame in
    gather_ends l.self c.args.list _ l.counter g (none_left l.self g.home c.args.list l.counter g.homed g.count_limit (omega (arith, slots, c.loop-test.false)))
