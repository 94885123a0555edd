use Rattle.alt_forest.proofs.Common.{◌≡◌, ◌∙◌, ℤ, ◌-ℤ◌, sym, ap, subst, rules, arith, to_z, of_z, FitsSigned, ints, w64, state_of}
use Rattle.search_keys.specs.Keys.{IsReach}
use Rattle.search_keys.proofs.Near.{near_fits, near_reach}
use Rattle.search_keys.proofs.keys.reach_of.Goals as goal

pub near_sum-requires-clause-near : goal.near_sum-requires-clause-near
near_sum-requires-clause-near c =
    let s = c.args.search.now in near_fits (state_of s) s.clock c.args.v c.requires.near c.requires.low c.requires.high c.requires.vertex

pub returns : goal.returns
returns c =
    let s = c.args.search.now in let within = near_reach (state_of s) s.clock c.args.v c.requires.near c.requires.low c.requires.high c.requires.vertex in
    let sum = c.near_sum.ensures.near_sum in
    let fits : FitsSigned w64 (c.near_sum.result -ℤ s.clock) = omega (arith, ints, within, sum) in
    let less : to_z w64 (of_z w64 (to_z w64 (of_z w64 c.near_sum.result) -ℤ to_z w64 (of_z w64 s.clock))) ≡ c.near_sum.result -ℤ s.clock = search rules in
    let is = less ∙ ap (λ (x : ℤ). x -ℤ s.clock) sum in
    record { reach = is; in_range = subst IsReach (sym is) within }

pub overflow_sub-result : goal.overflow_sub-result
overflow_sub-result c =
    let s = c.args.search.now in let within = near_reach (state_of s) s.clock c.args.v c.requires.near c.requires.low c.requires.high c.requires.vertex in
    let sum : to_z w64 (of_z w64 c.near_sum.result) ≡ c.near_sum.result = search rules in let clock : to_z w64 (of_z w64 s.clock) ≡ s.clock = search rules in
    omega (arith, ints, within, c.near_sum.ensures.near_sum, sum, clock)
