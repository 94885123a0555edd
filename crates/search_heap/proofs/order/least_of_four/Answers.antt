use Rattle.std.proofs.Common.{ℕ, ◌+◌, length, arith, ℤ}
use Rattle.search_heap.specs.Heaps.{key}
use Rattle.search_heap.proofs.Orders.{one_is_least, least_wider, least_past, least_fewer}
use Rattle.search_heap.proofs.order.least_of_four.Goals as goal

pub returns-then-left-count : goal.returns-then-left-count
returns-then-left-count c =
    least_fewer (key c.args.highs.now c.args.heap.now) (length c.args.heap.now) c.args.count c.args.left c.least_of_pairs.result
    (omega (arith, c.if-left-count.true)) c.requires.count_limit c.least_of_pairs.ensures

pub returns : goal.returns
returns c =
    let f : ℕ → ℤ = key c.args.highs.now c.args.heap.now in
    let n = c.args.count in
    let left = c.args.left in
    let two = least_wider f n left 1 left (left + 1) c.earlier_of-of_two.result (omega arith) (one_is_least f n left c.requires.within) c.earlier_of-of_two.ensures in
    let three = least_wider f n left 2 c.earlier_of-of_two.result (left + 2) c.earlier_of.result (omega arith) two c.earlier_of.ensures in
    least_past f n left 3 c.earlier_of.result (omega (arith, c.if-left-count.false)) three
