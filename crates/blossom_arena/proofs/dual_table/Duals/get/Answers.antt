use Rattle.graph_theory.proofs.Common.{◌≡◌, ◌∙◌, sym, subst, arith, rules, to_z, of_z, ap₂, w64, ℤ, ◌+ℤ◌, IsNumber}
use Rattle.blossom_arena.proofs.Moving.{base_place, sum_is, number_at}
use Rattle.blossom_arena.proofs.dual_table.Duals.get.Goals as goal

pub index-requires : goal.index-requires
index-requires c = omega (arith, base_place c.self.inside _ c.args.place c.self.view_is c.requires, c.self.invariant.motions)

pub index-requires-2 : goal.index-requires-2
index-requires-2 c = omega (arith, base_place c.self.inside _ c.args.place c.self.view_is c.requires)

pub sum_of-requires : goal.sum_of-requires
sum_of-requires c =
    let back : to_z w64 (of_z w64 c.index-2.result.now) ≡ c.index-2.result.now = search rules in
    let back2 : to_z w64 (of_z w64 c.share-share.result) ≡ c.share-share.result = search rules in
    let sum = sum_is c.self.inside _ c.args.place _ _ _ c.self.view_is c.requires c.self.invariant.motions c.index-2.ensures c.index.ensures c.share-share.ensures in
    subst IsNumber (sym (ap₂ (λ (x y : ℤ). x +ℤ y) back back2 ∙ sum)) (number_at c.self.inside _ c.args.place c.self.view_is c.self.invariant)

pub returns : goal.returns
returns c =
    let back : to_z w64 (of_z w64 c.index-2.result.now) ≡ c.index-2.result.now = search rules in
    let back2 : to_z w64 (of_z w64 c.share-share.result) ≡ c.share-share.result = search rules in
    let sum = sum_is c.self.inside _ c.args.place _ _ _ c.self.view_is c.requires c.self.invariant.motions c.index-2.ensures c.index.ensures c.share-share.ensures in
    let back3 : to_z w64 (of_z w64 c.sum_of.result) ≡ c.sum_of.result = search rules in
    let dual = back3 ∙ c.sum_of.ensures ∙ ap₂ (λ (x y : ℤ). x +ℤ y) back back2 ∙ sum in
    record { dual = dual; number = subst IsNumber (sym dual) (number_at c.self.inside _ c.args.place c.self.view_is c.self.invariant) }
