use Rattle.std.proofs.Common.{◌≡◌, ℕ, ◌+◌, ◌-◌, List, length, take, drop, subst, arith, ℤ}
use Rattle.search_heap.specs.declared.entry.Entry.{Entry}
use Rattle.search_heap.specs.Heaps.{key, IsEarlierOf}
use Rattle.search_heap.proofs.Fours.{four_long, least_there}
use Rattle.search_heap.proofs.Orders.{one_is_least, least_wider, least_of_both}
use Rattle.search_heap.proofs.order.least_of_pairs.Goals as goal

pub returns : goal.returns
returns c =
    let heap : List Entry = c.args.heap.now in
    let left : ℕ = c.args.left in
    let xs : List Entry = take 4 (drop left heap) in
    let f : ℕ → ℤ = key c.args.highs.now xs in
    let n : ℕ = length xs in
    let long : n ≡ 4 = four_long c.args.highs.now heap left c.requires.within in
    let wide : left + 4 - left ≡ 4 = omega arith in
    let a : ℕ = c.earlier_within-of_first.result in
    let b : ℕ = c.earlier_within-of_last.result in
    let first = subst (λ (w : ℕ). IsEarlierOf (key c.args.highs.now (take w (drop left heap))) (length (take w (drop left heap))) 0 1 a) wide c.earlier_within-of_first.ensures in
    let last = subst (λ (w : ℕ). IsEarlierOf (key c.args.highs.now (take w (drop left heap))) (length (take w (drop left heap))) 2 3 b) wide c.earlier_within-of_last.ensures in
    least_there c.args.highs.now heap left c.requires.within c.earlier_within.result
    (least_of_both f n 0 a b c.earlier_within.result
    (least_wider f n 0 1 0 1 a (omega arith) (one_is_least f n 0 (omega (arith, long))) first)
    (least_wider f n 2 1 2 3 b (omega arith) (one_is_least f n 2 (omega (arith, long))) last)
    (subst (λ (w : ℕ). IsEarlierOf (key c.args.highs.now (take w (drop left heap))) (length (take w (drop left heap))) a b c.earlier_within.result) wide c.earlier_within.ensures))
