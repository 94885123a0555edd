use Rattle.graph_theory.proofs.Common.{◌≡◌, ◌∙◌, ◌+◌, ◌<◌, ◌+ℤ◌, length, ap, subst, arith, rules, to_z, of_z, FitsSigned, ints, w128, AllByRecursion}
use Rattle.blossom_arena.specs.Family.{dual_at}
use Rattle.blossom_arena.proofs.ChainSums.{total_step}
use Rattle.blossom_arena.proofs.dual_table.total.Goals as goal

pub get-requires : goal.get-requires
get-requires c =
    omega (arith, c.number.ensures, (subst (AllByRecursion (λ a. a < length c.args.duals.now.values)) c.in-Some.ensures.steps c.loop-node.invariant.places).0)

pub loop-node-preserved : goal.loop-node-preserved
loop-node-preserved c =
    let i = c.loop-node.invariant in
    let steps = c.in-Some.ensures.steps in
    let more : length c.loop-node.node-iterator ≡ length c.next.new.self + 1 = ap length steps ∙ omega arith in
    let same : c.from-sum.result ≡ c.get.result = search rules in
    let dual : c.from-sum.result ≡ dual_at c.args.duals.now.values c.in-Some.node = same ∙ c.get.ensures.dual ∙ ap (dual_at c.args.duals.now.values) c.number.ensures in
    let fits : FitsSigned w128 (to_z w128 c.loop-node.sum-bits +ℤ c.from-sum.result) =
    omega (arith, ints, more, same, i.low, i.high, c.get.ensures.number.0, c.get.ensures.number.1) in
    let back : to_z w128 (of_z w128 (to_z w128 c.loop-node.sum-bits +ℤ to_z w128 (of_z w128 c.from-sum.result))) ≡ to_z w128 c.loop-node.sum-bits +ℤ c.from-sum.result = search rules in
    record {
      sum = total_step (dual_at c.args.duals.now.values) c.loop-node.node-iterator c.next.new.self c.in-Some.node _ _ c.from-sum.result _ steps dual back i.sum;
      places = (subst (AllByRecursion (λ a. a < length c.args.duals.now.values)) steps i.places).1;
      low = omega (arith, ints, more, back, same, i.low, c.get.ensures.number.0);
      high = omega (arith, ints, more, back, same, i.high, c.get.ensures.number.1);
    }

pub returns : goal.returns
returns c =
    let i = c.loop-node.invariant in
    let none = c.in-None.ensures.steps.0 in
    let sum = rw none at i.sum in
    let low = rw none at i.low in
    let high = rw none at i.high in
    record { total = omega (arith, ints, sum); in_range = (omega (arith, ints, low), omega (arith, ints, high)) }
