use Rattle.certificates.proofs.Common.{◌≡◌, ℕ, ◌+◌, ◌-◌, ◌<◌, pos, List, All, length, take, get_or, slice_index, slice_set, nat_abs, sym, refl, arith}
use Rattle.certificates.proofs.Common.{ap, ◌∙◌, take_all, All-get_or, CountLine, IsCountWithin, count_of, length-set, length-replicate, get_or-replicate}
use Rattle.cert_check.proofs.ListLemmas.{passed, number_within}
use Rattle.cert_check.proofs.CountLemmas.{count-step, all-counts, from_one}
use Rattle.cert_check.proofs.claims.counts_of.Goals as goal

abbrev none : CountLine
none = record { line = 0; edge = pos 0; count = pos 0 }

line_within : (m k : ℕ) (xs : List CountLine) → k < length xs → All (IsCountWithin m) xs → IsCountWithin m (get_or xs k none)
line_within m k xs inside within = All-get_or (IsCountWithin m) xs k none inside within

pub loop-x-init : goal.loop-x-init
loop-x-init c =
    let zeros = c.in_ok-counts.ensures.items_if_clones_equal (λ y h. h) in
    record { size = ap (λ (v : List ℕ). length v) zeros ∙ length-replicate _ _; each = λ e below. ap (λ (v : List ℕ). slice_index v e) zeros ∙ get_or-replicate _ e 0 0 below }

pub natural-requires : goal.natural-requires
natural-requires c =
    let h = passed 4096 _ (line_within c.args.m c.loop-x.x-index c.args.lines.now c.loop-x-test.true c.requires.in_range).1 (omega arith) in
    record { low = h.low; high = h.high }

pub natural-requires-in-loop-x : goal.natural-requires-in-loop-x
natural-requires-in-loop-x c =
    let h = passed c.args.m _ (line_within c.args.m c.loop-x.x-index c.args.lines.now c.loop-x-test.true c.requires.in_range).0 c.ranges.m.fits in
    record { low = h.low; high = h.high }

pub overflow_sub-natural : goal.overflow_sub-natural
overflow_sub-natural c =
    let within = line_within c.args.m c.loop-x.x-index c.args.lines.now c.loop-x-test.true c.requires.in_range in
    omega (arith, (number_within c.args.m c.natural-in-loop-x.result _ within.0 c.ranges.m.fits c.natural-in-loop-x.ensures).0)

pub index_mut-requires : goal.index_mut-requires
index_mut-requires c =
    let within = line_within c.args.m c.loop-x.x-index c.args.lines.now c.loop-x-test.true c.requires.in_range in
    let place = number_within c.args.m c.natural-in-loop-x.result _ within.0 c.ranges.m.fits c.natural-in-loop-x.ensures in
    omega (arith, place.0, place.1, c.loop-x.invariant.size)

pub loop-x-preserved : goal.loop-x-preserved
loop-x-preserved c =
    let xs = c.args.lines.now in
    let k = c.loop-x.x-index in
    let v = c.loop-x.counts.items in
    let p = c.natural-in-loop-x.result - 1 in
    let x : CountLine = get_or xs k none in
    let within : IsCountWithin c.args.m x = line_within c.args.m k xs c.loop-x-test.true c.requires.in_range in
    let number = number_within c.args.m c.natural-in-loop-x.result x.edge within.0 c.ranges.m.fits c.natural-in-loop-x.ensures in
    let edge : c.natural-in-loop-x.result ≡ nat_abs x.edge = c.natural-in-loop-x.ensures ∙ ap nat_abs (passed c.args.m x.edge within.0 c.ranges.m.fits).same in
    let count : c.natural.result ≡ nat_abs x.count = c.natural.ensures ∙ ap nat_abs (passed 4096 x.count within.1 (omega arith)).same in
    let place : x.edge ≡ pos (p + 1) = from_one x.edge within.0.low ∙ ap (λ (q : ℕ). pos (q - 1 + 1)) (sym edge) in
    let size : length v ≡ c.args.m = c.loop-x.invariant.size in
    let inside : p < length v = omega (arith, number.0, number.1, size) in
    let step = count-step xs k p v none x c.requires.ascending c.loop-x-test.true refl place inside (λ e (below : e < length v). c.loop-x.invariant.each e (omega arith)) in
    record { size = length-set v p c.natural.result ∙ size; each = λ e below. ap (λ (n : ℕ). slice_index (slice_set v p n) e) count ∙ step e (omega arith) }

pub returns : goal.returns
returns c =
    let xs = c.args.lines.now in
    let whole : take c.loop-x.x-index xs ≡ xs = take_all c.loop-x.x-index xs c.loop-x-test.false in
    all-counts xs c.args.m c.loop-x.counts.items c.loop-x.invariant.size (λ e inside. c.loop-x.invariant.each e inside ∙ ap (λ (ys : List CountLine). count_of ys (e + 1)) whole)
