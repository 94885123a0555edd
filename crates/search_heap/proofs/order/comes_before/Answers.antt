use Rattle.std.proofs.Common.{arith}
use Rattle.std.proofs.lemmas.Int.{ints}
use Rattle.search_heap.proofs.order.comes_before.Goals as goal

pub returns : goal.returns
returns c =
    let zero = c.is_wide.ensures c.if-is_wide.false in
    let a = zero c.args.a.now.slot in
    let b = zero c.args.b.now.slot in
    record { before = λ is. grind (arith, ints, a, b, c.low_before.ensures.before is); after = λ is. grind (arith, ints, a, b, c.low_before.ensures.after is) }
