use Rattle.graph_theory.proofs.Common.{arith, ints, ◌≡◌, ◌∙◌, ◌<◌, ℕ, ℤ, List, length, get_or, ap, pos, get_or_read}
use Rattle.dual_check.specs.Crossed.{total_at}
use Rattle.dual_check.proofs.shares.Shares.without.Goals as goal

read : (totals : List ℤ) (v at : ℕ) (z : ℤ) → v < length totals → at ≡ v → z ≡ get_or totals at z → z ≡ total_at totals v
read totals v at z there same is = get_or_read totals at z (omega (arith, there, same)) is (pos 0) ∙ ap (total_at totals) same

pub overflow_sub-result : goal.overflow_sub-result
overflow_sub-result c =
    let here = read c.args.self.now.with_vertex.items c.args.vertex c.number.result c.index.result.now c.requires.in_range c.number.ensures c.index.ensures in
    omega (arith, ints, here, c.requires.whole.0, c.requires.whole.1, c.requires.with_vertex.0, c.requires.with_vertex.1)

pub returns-clause-exact : goal.returns-clause-exact
returns-clause-exact c =
    let here = read c.args.self.now.with_vertex.items c.args.vertex c.number.result c.index.result.now c.requires.in_range c.number.ensures c.index.ensures in
    omega (arith, ints, here, c.requires.whole.0, c.requires.whole.1, c.requires.with_vertex.0, c.requires.with_vertex.1)

pub returns-clause-value_limit : goal.returns-clause-value_limit
returns-clause-value_limit c =
    let here = read c.args.self.now.with_vertex.items c.args.vertex c.number.result c.index.result.now c.requires.in_range c.number.ensures c.index.ensures in (
      omega (arith, ints, here, c.requires.whole.0, c.requires.whole.1, c.requires.with_vertex.0, c.requires.with_vertex.1),
      omega (arith, ints, here, c.requires.whole.0, c.requires.whole.1, c.requires.with_vertex.0, c.requires.with_vertex.1),
    )
