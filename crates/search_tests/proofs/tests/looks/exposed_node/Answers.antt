use Rattle.alt_forest.proofs.Common.{◌≡◌, ◌+◌, ◌-◌, subst, arith, IsExposed, state_of, outer_range}
use Rattle.search_tests.proofs.tests.looks.exposed_node.Goals as goal

pub returns-clause-none : goal.returns-clause-none
returns-clause-none c = λ e a exposed.
    let s = c.args.search.now in
    let range = outer_range s a c.requires.sound.shape exposed.0 in
    let back : a ≡ a - 1 + 1 = omega (arith, range.0) in
    c.loop-place.invariant (a - 1) (omega (arith, range.0, range.1, c.loop-place-test.false, c.node_limit-place-end.ensures.limit, c.requires.sound.shape.arena))
    (subst (IsExposed (state_of s)) back exposed)
