use Rattle.graph_theory.proofs.Common.{◌≡◌, ◌∙◌, ap, rules, to_z, of_z, w64, ℤ, slice_set}
use Rattle.blossom_arena.proofs.Moving.{same_put}
use Rattle.blossom_arena.proofs.dual_table.Duals.move_as.Goals as goal

pub returns-clause-values : goal.returns-clause-values
returns-clause-values c =
    let back : to_z w64 (of_z w64 c.get-y.result) ≡ c.get-y.result = search rules in
    c.put.ensures.values ∙ ap (λ (y : ℤ). slice_set c.args.self.now.values c.args.place y) (back ∙ c.get-y.ensures.dual) ∙ same_put c.args.self.now.values c.args.place
