use Rattle.graph_theory.proofs.Common.{arith, rules, to_z, of_z, ◌≡◌, ◌<◌, length, ints}
use Rattle.std.proofs.Common.{w64}
use Rattle.dual_check.proofs.AddLemmas.{given_new, given_next}
use Rattle.dual_check.proofs.shares.share.Goals as goal

pub add_to-requires : goal.add_to-requires
add_to-requires c =
    let x = c.vertex-item.result in
    let low : x < length c.args.totals.now = search rules in
    let small = c.requires.value_limit c.number.result in
    let new = given_new c.args.members.now c.loop-vertex.vertex-index x c.number.result (λ _. to_z w64 (of_z w64 c.args.dual)) c.args.totals.now c.loop-vertex.totals c.requires.ascending
    c.loop-vertex-test.true c.vertex-item.is c.number.ensures c.loop-vertex.invariant in
    record {
      in_range = omega (arith, low, c.number.ensures, c.loop-vertex.invariant.size);
      value_limit = (omega (arith, ints, new, small.0), omega (arith, ints, new, small.1));
      more = (omega (arith, ints, c.requires.dual.0, c.from.ensures), omega (arith, ints, c.requires.dual.1, c.from.ensures));
    }

pub loop-vertex-preserved : goal.loop-vertex-preserved
loop-vertex-preserved c =
    let same : to_z w64 (of_z w64 c.args.dual) ≡ c.args.dual = search rules in
    given_next c.args.members.now c.loop-vertex.vertex-index c.vertex-item.result c.number.result (λ _. to_z w64 (of_z w64 c.args.dual)) c.args.totals.now c.loop-vertex.totals
    c.requires.ascending c.loop-vertex-test.true c.vertex-item.is c.number.ensures c.loop-vertex.invariant _ _
    (omega (arith, ints, c.from.ensures, same, c.requires.dual.0, c.requires.dual.1)) c.add_to.ensures.size c.add_to.ensures.exact
