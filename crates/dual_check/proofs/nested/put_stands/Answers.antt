use Rattle.graph_theory.proofs.Common.{◌≡◌, ℕ, arith, subst}
use Rattle.dual_check.specs.NestedTotals.{IsStand, stand_of}
use Rattle.dual_check.proofs.nested.put_stands.Goals as goal

pub returns-clause-stands : goal.returns-clause-stands
returns-clause-stands c = λ w.
    let all : c.loop-q.q ≡ c.args.end = omega (arith, c.loop-q-test.false, c.loop-q.auto.q-end, c.requires.order) in
    subst (λ (q : ℕ). IsStand c.args.forest.now c.args.begin q w (stand_of c.loop-q.stands w)) all (c.loop-q.invariant.stands w)
