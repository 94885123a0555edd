use Rattle.graph_theory.proofs.Common.{◌-◌, ◌+◌, ◌∙◌, arith, both_ways}
use Rattle.alt_forest.proofs.Routes.{found_at, drop_more, sought_on}
use Rattle.alt_forest.proofs.meet.place_of.Goals as goal

pub returns-then-is_found-clause-found : goal.returns-then-is_found-clause-found
returns-then-is_found-clause-found c =
    found_at c.next.result c.args.path c.loop-place.rest c.next.new.self c.loop-place.place c.args.node c.next.ensures.steps (c.is_found.ensures.0 c.if-is_found.true)
    c.loop-place.invariant.left

pub loop-place-preserved : goal.loop-place-preserved
loop-place-preserved c = record {
  left = drop_more c.next.result c.args.path c.loop-place.rest c.next.new.self c.loop-place.place c.next.ensures.steps c.loop-place.invariant.left;
  same = sought_on c.next.result c.loop-place.rest c.next.new.self (c.args.most - (c.loop-place.place + 1)) (c.args.most - c.loop-place.place) c.args.node c.next.ensures.steps
      (λ e. both_ways _ c.if-is_found.false (c.is_found.ensures.1 e)) (omega (arith, c.loop-place-test.true)) ∙ c.loop-place.invariant.same;
}
