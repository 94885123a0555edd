use Rattle.graph_theory.proofs.Common.{◌≡◌, ℤ, subst, rules, to_z, of_z, w64}
use Rattle.state_check.specs.Checks.{HasParity}
use Rattle.state_check.proofs.Parities.{odd_more, even_more}
use Rattle.state_check.proofs.parity.is_odd_sum.Goals as goal

pub returns-then-odd : goal.returns-then-odd
returns-then-odd c = λ y has.
    let back : to_z w64 (of_z w64 c.args.x) ≡ c.args.x = search rules in
    odd_more y c.args.x (subst (HasParity y) c.if-odd.true has) c.is_odd.result (subst (λ (x : ℤ). HasParity x c.is_odd.result) back c.is_odd.ensures)

pub returns : goal.returns
returns c = λ y has.
    let back : to_z w64 (of_z w64 c.args.x) ≡ c.args.x = search rules in
    even_more y c.args.x (subst (HasParity y) c.if-odd.false has) c.is_odd-2.result (subst (λ (x : ℤ). HasParity x c.is_odd-2.result) back c.is_odd-2.ensures)
