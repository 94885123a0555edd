use Rattle.alt_forest.proofs.Common.{◌≡◌, ℤ, ◌-ℤ◌, Some, sym, ap, ◌∙◌, subst, rules, arith, to_z, of_z, FitsSigned, ints, w64, Label, dual_sum, state_of}
use Rattle.search_keys.specs.Bounds.{ComesUp, IsHalf, reach}
use Rattle.search_keys.proofs.Near.{near_fits}
use Rattle.search_keys.proofs.keys.comes_up.Goals as goal

pub returns-in-Outer : goal.returns-in-Outer
returns-in-Outer c =
    let s = c.args.search.now in let r = reach (state_of s) s.clock c.args.v in
    let back : to_z w64 (of_z w64 c.half.result) ≡ c.half.result = search rules in let in_range = c.reach_of.ensures.in_range in
    let fits : FitsSigned w64 (c.args.key -ℤ c.reach_of.result) = omega (arith, ints, c.requires.key, in_range) in
    let less : to_z w64 (of_z w64 (to_z w64 (of_z w64 c.args.key) -ℤ to_z w64 (of_z w64 c.reach_of.result))) ≡ c.args.key -ℤ c.reach_of.result = search rules in
    subst (λ (l : Label). ComesUp l (dual_sum (state_of s) c.args.v) s.clock (Some c.args.key) (Some (to_z w64 (of_z w64 c.half.result)))) (sym c.in-Outer.is) (
      c.half.result,
      ap (λ (x : ℤ). Some x) back,
      subst (λ (y : ℤ). IsHalf y c.half.result) (less ∙ ap (λ (x : ℤ). c.args.key -ℤ x) c.reach_of.ensures.reach) c.half.ensures,
    )

pub returns-in-Out : goal.returns-in-Out
returns-in-Out c =
    let s = c.args.search.now in let e = c.near_sum.ensures in
    let near = near_fits (state_of s) s.clock c.args.v c.requires.near c.requires.low c.requires.high c.requires.vertex in
    let fits : FitsSigned w64 (c.args.key -ℤ c.near_sum.result) = omega (arith, ints, c.requires.key, near, e.near_sum) in
    let less : to_z w64 (of_z w64 (to_z w64 (of_z w64 c.args.key) -ℤ to_z w64 (of_z w64 c.near_sum.result))) ≡ c.args.key -ℤ c.near_sum.result = search rules in
    let comes : ℤ → Label → Type 0 = λ m l. ComesUp l (dual_sum (state_of s) c.args.v) s.clock (Some c.args.key) (Some m) in
    subst (comes _) (sym c.in-Out.is) (ap (λ (x : ℤ). Some x) (less ∙ ap (λ (x : ℤ). c.args.key -ℤ x) e.near_sum))
