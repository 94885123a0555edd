use Rattle.std.proofs.Common.{◌≡◌, arith, rules, to_z, of_z}
use Rattle.std.proofs.lemmas.Int.{ints}
use mir.Syntax.{w128}
use Rattle.search_heap.proofs.sift.renew.Goals as goal

pub sink-requires : goal.sink-requires
sink-requires c =
    let one : to_z w128 (of_z w128 c.args.was) ≡ c.args.was = search rules in
    let other : to_z w128 (of_z w128 c.args.moment) ≡ c.args.moment = search rules in
    record { tables = c.requires.tables; order = c.requires.later (omega (arith, ints, one, other, c.if-was-moment.true)) }

pub rise-requires : goal.rise-requires
rise-requires c =
    let one : to_z w128 (of_z w128 c.args.was) ≡ c.args.was = search rules in
    let other : to_z w128 (of_z w128 c.args.moment) ≡ c.args.moment = search rules in
    record { tables = c.requires.tables; order = c.requires.sooner (omega (arith, ints, one, other, c.if-was-moment.false)) }
