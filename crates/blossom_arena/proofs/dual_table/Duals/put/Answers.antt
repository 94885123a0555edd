use Rattle.graph_theory.proofs.Common.{◌≡◌, ◌∙◌, ap, ap₂, sym, subst, arith, rules, to_z, of_z, w64, ℤ, ◌-ℤ◌, slice_set, Vec, with_item, IsNumber}
use Rattle.blossom_arena.specs.declared.label.Label.{Label}
use Rattle.blossom_arena.specs.Changes.{share}
use Rattle.blossom_arena.specs.Moving.{DualTable}
use Rattle.blossom_arena.proofs.Moving.{base_place, share_number, table_put, values_put}
use Rattle.blossom_arena.proofs.dual_table.Duals.put.Goals as goal

pub base_of-requires-clause-share : goal.base_of-requires-clause-share
base_of-requires-clause-share c =
    let back : to_z w64 (of_z w64 c.share.result) ≡ c.share.result = search rules in
    subst IsNumber (sym (back ∙ c.share.ensures)) (share_number c.self.inside.shares c.args.motion c.self.invariant.low c.self.invariant.high)

pub index_mut-requires : goal.index_mut-requires
index_mut-requires c = omega (arith, base_place c.self.inside _ c.args.place c.self.view_is c.requires.place)

pub index_mut-requires-2 : goal.index_mut-requires-2
index_mut-requires-2 c = omega (arith, base_place c.self.inside _ c.args.place c.self.view_is c.requires.place, c.self.invariant.motions)

base : (c : goal.After-self-2-1) → to_z w64 (of_z w64 c.base_of.result) ≡ c.args.y -ℤ share c.self.inside.shares c.args.motion
base c =
    let back : to_z w64 (of_z w64 c.base_of.result) ≡ c.base_of.result = search rules in
    let own : to_z w64 (of_z w64 c.args.y) ≡ c.args.y = search rules in
    let more : to_z w64 (of_z w64 c.share.result) ≡ c.share.result = search rules in
    back ∙ c.base_of.ensures ∙ ap₂ (λ (x z : ℤ). x -ℤ z) own (more ∙ c.share.ensures)

pub invariant_of-self : goal.invariant_of-self
invariant_of-self c =
    let bases : Vec ℤ = with_item c.self.inside.bases c.args.place (to_z w64 (of_z w64 c.base_of.result)) in
    let motions : Vec Label = with_item c.self.inside.motions c.args.place c.args.motion in
    let low = base_place c.self.inside _ c.args.place c.self.view_is c.requires.place in
    table_put c.self.inside bases motions c.args.place c.args.y c.args.motion c.self.invariant low (ap (slice_set c.self.inside.bases.items c.args.place) (base c))
    (λ i. motions.items) c.requires.number

pub returns-clause-values : goal.returns-clause-values
returns-clause-values c =
    let bases : Vec ℤ = with_item c.self.inside.bases c.args.place (to_z w64 (of_z w64 c.base_of.result)) in
    let motions : Vec Label = with_item c.self.inside.motions c.args.place c.args.motion in
    let low = base_place c.self.inside _ c.args.place c.self.view_is c.requires.place in
    values_put c.self.inside bases motions c.args.place c.args.y c.args.motion c.self.invariant low (ap (slice_set c.self.inside.bases.items c.args.place) (base c)) (λ i. motions.items)
    ∙ ap (λ (t : DualTable). slice_set t.values c.args.place c.args.y) c.self.view_is
