use Rattle.graph_theory.proofs.Common.{arith, ◌≡◌, ap, ℕ, ◌-◌, ◌-ℤ◌, cond, length, ints, lt-ltb}
use Rattle.dual_check.specs.Forests.{shared_dual}
use Rattle.dual_check.specs.NestedTotals.{unshared_dual}
use Rattle.dual_check.proofs.nested.unshared.Goals as goal

pub returns-then-begin-stand-clause-exact : goal.returns-then-begin-stand-clause-exact
returns-then-begin-stand-clause-exact c =
    let sets = c.args.sets.now in
    let with = λ (p : ℕ). shared_dual sets (length sets) c.args.forest.now p c.args.q in
    let value : unshared_dual sets c.args.forest.now c.args.begin c.args.q c.args.stand ≡ (with c.args.q -ℤ with (c.args.stand - 1)) =
    ap (λ t. cond t (with c.args.q -ℤ with (c.args.stand - 1)) (with c.args.q)) (lt-ltb c.args.begin c.args.stand c.if-begin-stand.true) in
    omega (
      arith,
      ints,
      value,
      c.requires.whole,
      c.shared_at.ensures.exact,
      c.requires.value_limit.0,
      c.requires.value_limit.1,
      c.shared_at.ensures.value_limit.0,
      c.shared_at.ensures.value_limit.1,
    )
