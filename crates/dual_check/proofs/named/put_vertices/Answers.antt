use Rattle.graph_theory.proofs.Common.{◌≡◌, length, arith}
use Rattle.dual_check.proofs.named.put_vertices.Goals as goal

pub returns-clause-inside : goal.returns-clause-inside
returns-clause-inside c = λ t b. c.loop-k.invariant.inside t (omega (arith, b, c.loop-k-test.false))

pub returns-clause-after : goal.returns-clause-after
returns-clause-after c = λ x low.
    let all : c.loop-k.k ≡ length c.args.vertices.now = omega (arith, c.loop-k-test.false, c.loop-k.auto.k-end) in
    c.loop-k.invariant.after x (omega (arith, low, all))
