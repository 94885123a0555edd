use Rattle.alt_forest.proofs.Common.{◌≡◌, ◌∙◌, pos, negsuc, ◌≤ℤ◌, ap, subst, rules, to_z, of_z, w64, dual_at, state_of}
use Rattle.search_tests.proofs.Small.{small_fits}
use Rattle.search_tests.proofs.tests.range.dual_fits.Goals as goal

pub returns : goal.returns
returns c = λ e is.
    let back : to_z w64 (of_z w64 c.dual.result) ≡ c.dual.result = search rules in
    let same = back ∙ c.dual.ensures.dual ∙ ap (dual_at c.args.search.now.arena.duals) c.new-node.ensures in
    small_fits (state_of c.args.search.now) c.args.d c.args.number is c.requires.low c.requires.high
    (subst (λ x. negsuc 999999 ≤ℤ x) same (c.is_small_dual.ensures.low e)) (subst (λ x. x ≤ℤ pos 1000000) same (c.is_small_dual.ensures.high e))
