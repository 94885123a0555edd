use Rattle.graph_theory.proofs.Common.{◌≡◌, ◌≤◌, ◌-◌, ◌+◌, ℤ, List, sym, subst, ap, arith, ints, rules, to_z, of_z, w64}
use Rattle.search_heap.specs.Rising.{IsSpread, end_at}
use Rattle.search_heap.proofs.Spreads.{IsSpreading, spread_ends, spread_starts, spread_steps}
use Rattle.search_heap.proofs.ends.spread.Goals as goal

pub loop-bucket-init : goal.loop-bucket-init
loop-bucket-init c =
    let old = c.args.ends.now.items in let m : ℤ = to_z w64 (of_z w64 c.args.moment) in
    let kept : m ≡ c.args.moment = search rules in
    subst (λ (es : List ℤ). IsSpreading old es m c.args.last 1) (sym c.set_end.ensures)
    (spread_starts old m c.args.last c.requires.ends (omega (arith, ints, kept, c.requires.high)))

pub nearest-end-requires : goal.nearest-end-requires
nearest-end-requires c =
    let s = c.loop-bucket.invariant in
    let one : to_z w64 (of_z w64 c.end_of.result) ≡ c.end_of.result = search rules in
    let other : to_z w64 (of_z w64 c.end_of-in-loop-bucket.result) ≡ c.end_of-in-loop-bucket.result = search rules in
    omega (
      arith,
      ints,
      one,
      other,
      c.end_of.ensures,
      c.end_of-in-loop-bucket.ensures,
      ap (λ (es : List ℤ). end_at es (c.loop-bucket.bucket - 1)) c.deref.ensures.value,
      ap (λ (es : List ℤ). end_at es c.args.last) c.deref-in-loop-bucket.ensures.value,
      s.below (c.loop-bucket.bucket - 1) (omega (arith, c.loop-bucket.auto.bucket)),
      s.frame c.args.last (omega (arith, c.loop-bucket-test.true)),
    )

pub loop-bucket-preserved : goal.loop-bucket-preserved
loop-bucket-preserved c =
    let l = c.loop-bucket in let old = c.args.ends.now.items in let m : ℤ = to_z w64 (of_z w64 c.args.moment) in
    let one : to_z w64 (of_z w64 c.end_of.result) ≡ c.end_of.result = search rules in
    let other : to_z w64 (of_z w64 c.end_of-in-loop-bucket.result) ≡ c.end_of-in-loop-bucket.result = search rules in
    let kept : to_z w64 (of_z w64 c.nearest-end.result) ≡ c.nearest-end.result = search rules in
    subst (λ (es : List ℤ). IsSpreading old es m c.args.last (l.bucket + 1)) (sym c.set_end-in-loop-bucket.ensures)
    (spread_steps old l.ends.items m (to_z w64 (of_z w64 c.nearest-end.result)) c.args.last l.bucket l.invariant (omega (arith, l.auto.bucket)) c.loop-bucket-test.true c.requires.last
    (omega (arith, ints, one, kept, c.end_of.ensures, ap (λ (es : List ℤ). end_at es (l.bucket - 1)) c.deref.ensures.value, c.nearest-end.ensures.low))
    (omega (arith, ints, other, kept, c.end_of-in-loop-bucket.ensures, ap (λ (es : List ℤ). end_at es c.args.last) c.deref-in-loop-bucket.ensures.value, c.nearest-end.ensures.high)))

pub returns : goal.returns
returns c =
    let l = c.loop-bucket in let m : ℤ = to_z w64 (of_z w64 c.args.moment) in
    let kept : m ≡ c.args.moment = search rules in
    let up : l.bucket ≤ c.args.last = l.auto.bucket-end (omega (arith, c.requires.after)) in
    subst (λ (z : ℤ). IsSpread c.args.ends.now.items l.ends.items z c.args.last) kept
    (spread_ends c.args.ends.now.items l.ends.items m c.args.last l.bucket c.requires.ends l.invariant (omega (arith, up, c.loop-bucket-test.false)) c.requires.last)
