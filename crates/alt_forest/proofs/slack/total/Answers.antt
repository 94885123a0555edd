use Rattle.graph_theory.proofs.Common.{◌≡◌, ◌∙◌, ℕ, ◌-◌, ℤ, pos, ◌+ℤ◌, true, take, ap, arith, rules, to_z, of_z, FitsSigned, ints, w128}
use Rattle.blossom_arena.specs.Family.{is_node, dual_at}
use Rattle.alt_forest.specs.Chains.{total_of}
use Rattle.alt_forest.proofs.Totals.{total_step, each_left}
use Rattle.alt_forest.proofs.slack.total.Goals as goal

pub loop-preserved : goal.loop-preserved
loop-preserved c =
    let same : c.from-sum.result ≡ c.dual_or_zero.result = search rules in
    let fits : FitsSigned w128 (to_z w128 c.loop.sum-bits +ℤ c.from-sum.result) =
    omega (arith, ints, same, c.loop.invariant.low, c.loop.invariant.high, c.dual_or_zero.ensures.in_range.0, c.dual_or_zero.ensures.in_range.1, c.requires.size_limit, c.loop-test.true) in
    let back : to_z w128 (of_z w128 (to_z w128 c.loop.sum-bits +ℤ to_z w128 (of_z w128 c.from-sum.result))) ≡ to_z w128 c.loop.sum-bits +ℤ c.from-sum.result = search rules in
    record {
      sum = total_step (dual_at c.args.arena.now.duals) c.next.result c.loop.rest c.next.new.self c.args.nodes c.loop.counter _ _ c.from-sum.result _ c.next.ensures.steps
          c.loop-test.true (same ∙ c.dual_or_zero.ensures.dual) back c.loop.invariant.sum;
      nodes = each_left (λ a. is_node c.args.arena.now.vertex_count c.args.arena.now.blossoms a ≡ true) c.next.result c.loop.rest c.next.new.self
          c.next.ensures.steps c.loop.invariant.nodes;
      low = omega (arith, ints, back, same, c.loop.invariant.low, c.dual_or_zero.ensures.in_range.0);
      high = omega (arith, ints, back, same, c.loop.invariant.high, c.dual_or_zero.ensures.in_range.1);
    }

no_more : (x : ℤ) → x ≡ x +ℤ pos 0
no_more x = omega (arith, ints)

pub returns-clause-total : goal.returns-clause-total
returns-clause-total c =
    let none : 0 ≡ c.args.nodes - c.loop.counter = omega arith in
    no_more (to_z w128 c.loop.sum-bits)
    ∙ ap (λ (k : ℕ). to_z w128 c.loop.sum-bits +ℤ total_of (dual_at c.args.arena.now.duals) (take k c.loop.rest)) none ∙ c.loop.invariant.sum
