use Rattle.alt_forest.proofs.Common.{◌≡◌, ◌∙◌, ℤ, Some, sym, subst, rules, to_z, of_z, w64, w128, IsLeast}
use Rattle.dual_change.proofs.find_by_keys.earliest.Goals as goal

pub returns-clause-least : goal.returns-clause-least
returns-clause-least c =
    let found = c.in_ok-item in
    let wide : to_z w128 (of_z w128 c.from.result) ≡ c.from.result = search rules in let kept : to_z w64 (of_z w64 found.moment) ≡ found.moment = search rules in
    subst (λ (x : ℤ). IsLeast c.args.bounds.now.moments (Some (found.item, x))) (sym (wide ∙ c.from.ensures ∙ kept)) found.ensures.least
