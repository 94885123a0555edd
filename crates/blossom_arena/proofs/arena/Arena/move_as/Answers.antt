use Rattle.graph_theory.proofs.Common.{◌≡◌, ◌∙◌, ℕ, ap₂, true, sym, subst, arith, List}
use Rattle.blossom_arena.specs.declared.label.Label.{Label}
use Rattle.blossom_arena.specs.Family.{Family, is_outermost, HasMotions}
use Rattle.blossom_arena.specs.declared.arena.Arena.TheInside.{Inside}
use Rattle.blossom_arena.specs.Fields.{blossoms_of, family_of}
use Rattle.blossom_arena.proofs.Nested.{node_range, outermost_parts}
use Rattle.blossom_arena.proofs.Changed.{motions_sound, motions_with}
use Rattle.blossom_arena.proofs.arena.Arena.move_as.Goals as goal

outer : (a : Inside) (f : Family) (x y : ℕ) → family_of a ≡ f → is_outermost f.vertex_count f.blossoms x ≡ true → y ≡ x
    → is_outermost a.vertex_count (blossoms_of a) y ≡ true
outer a f x y view is same = ap₂ (λ (g : Family) (z : ℕ). is_outermost g.vertex_count g.blossoms z) view same ∙ is

pub move_as-requires : goal.move_as-requires
move_as-requires c =
    let range = node_range _ _ c.number.result c.self.invariant.family.nested
    (outermost_parts c.self.inside.vertex_count (blossoms_of c.self.inside) c.number.result
    (outer c.self.inside _ c.args.node c.number.result c.self.view_is c.requires c.number.ensures)).0 in
    omega (arith, range.1, c.self.invariant.family.duals.one_each)

pub invariant_of-self : goal.invariant_of-self
invariant_of-self c =
    motions_sound c.self.inside c.self.invariant c.move_as.new.self c.move_as.ensures.values
    (subst (λ (ms : List Label). HasMotions c.self.inside.vertex_count ms (blossoms_of c.self.inside)) (sym c.move_as.ensures.motions)
    (motions_with c.self.inside.vertex_count (blossoms_of c.self.inside) c.self.inside.duals.motions c.number.result c.args.label
    (outer c.self.inside _ c.args.node c.number.result c.self.view_is c.requires c.number.ensures) c.self.invariant.family.motions))

pub returns-clause-is_family : goal.returns-clause-is_family
returns-clause-is_family c = (invariant_of-self c).family
