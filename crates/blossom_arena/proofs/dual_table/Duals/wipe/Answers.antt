use Rattle.graph_theory.proofs.Common.{◌≡◌, ◌∙◌, ℕ, ap, length, replicate, arith, rules, pos, vec_len}
use Rattle.blossom_arena.specs.declared.label.Label.TheVariants.{Out}
use Rattle.blossom_arena.specs.declared.dual_table.Duals.TheInside.{Inside}
use Rattle.blossom_arena.specs.Moving.{DualTable}
use Rattle.blossom_arena.proofs.Moving.{table_zero, zero_table, length-moved}
use Rattle.blossom_arena.proofs.dual_table.Duals.wipe.Goals as goal

pub invariant_of-self : goal.invariant_of-self
invariant_of-self c =
    let motions : vec_len c.self.inside.motions ≡ vec_len c.self.inside.bases = omega (arith, c.self.invariant.motions) in
    zero_table _ (vec_len c.self.inside.bases) (search rules) (c.fill-2.ensures.items (λ y e. e) ∙ ap (λ (k : ℕ). replicate k Out) motions) (search rules)

pub returns : goal.returns
returns c =
    let t : Inside = record { bases = c.fill.new.self; motions = c.fill-2.new.self; shares = c.of-self-inside.result } in
    let count : vec_len c.self.inside.bases ≡ length c.args.self.now.values =
    omega (arith, length-moved c.self.inside.shares c.self.inside.bases.items c.self.inside.motions.items, ap (λ (x : DualTable). length x.values) c.self.view_is) in
    let motions : vec_len c.self.inside.motions ≡ length c.args.self.now.values = omega (arith, c.self.invariant.motions, count) in
    table_zero t (length c.args.self.now.values) (c.fill.ensures.items (λ y e. e) ∙ ap (λ (k : ℕ). replicate k (pos 0)) count)
    (c.fill-2.ensures.items (λ y e. e) ∙ ap (λ (k : ℕ). replicate k Out) motions) (search rules)
