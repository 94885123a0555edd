use Rattle.alt_forest.proofs.Common.{◌≡◌, ◌∙◌, ℤ, pos, ◌-ℤ◌, ◌*ℤ◌, cond, sym, ap, subst, rules, arith, to_z, of_z, FitsSigned, ints, w64, is_given}
use Rattle.graph_theory.proofs.Common.{to_z-of_z}
use Rattle.search_keys.specs.Bounds.{IsKey}
use Rattle.search_keys.proofs.keys.key_at.Goals as goal

pub returns : goal.returns
returns c =
    let r : ℤ = c.args.reach in let d = c.doubled.ensures in
    let weighs : to_z w64 (of_z w64 c.args.weight) ≡ c.args.weight = to_z-of_z w64 c.args.weight c.ranges.weight in
    let twice = d.doubled ∙ ap (λ (w : ℤ). cond (is_given c.args.search.now.weights) (pos 2 *ℤ w) (pos 0)) weighs in
    let key : IsKey (c.doubled.result -ℤ r) = (omega (arith, ints, d.low, c.requires.reach), omega (arith, ints, d.high, c.requires.reach)) in
    let fits : FitsSigned w64 (c.doubled.result -ℤ r) = omega (arith, ints, key) in
    let less : to_z w64 (of_z w64 (to_z w64 (of_z w64 c.doubled.result) -ℤ to_z w64 (of_z w64 r))) ≡ c.doubled.result -ℤ r = search rules in
    record { key = less ∙ ap (λ (x : ℤ). x -ℤ r) twice; in_range = subst IsKey (sym less) key }
