use Rattle.graph_theory.proofs.Common.{◌≡◌, ◌∙◌, ℕ, ap, sym, subst, rules, to_z, of_z, w64, ℤ, ◌+ℤ◌, IsNumber}
use Rattle.blossom_arena.specs.Changes.{gain, share}
use Rattle.blossom_arena.specs.Family.{Family, dual_at, label_at}
use Rattle.blossom_arena.proofs.Changed.{numbers, advanced_at, advance_sound}
use Rattle.blossom_arena.proofs.arena.Arena.advance.Goals as goal

pub advance-requires-clause-in_range : goal.advance-requires-clause-in_range
advance-requires-clause-in_range c =
    let back : to_z w64 (of_z w64 c.args.d) ≡ c.args.d = search rules in
    subst (λ (z : ℤ). (x : ℕ) → IsNumber (dual_at c.self.inside.duals.values x +ℤ share z (label_at c.self.inside.duals.motions x))) (sym back)
    (numbers c.self.inside _ c.args.d c.self.invariant c.self.view_is c.requires.in_range c.requires.not_below)

each : (c : goal.After-advance) → (x : ℕ) → dual_at c.advance.new.self.values x ≡ dual_at c.self.inside.duals.values x +ℤ share c.args.d (label_at c.self.inside.duals.motions x)
each c x =
    let back : to_z w64 (of_z w64 c.args.d) ≡ c.args.d = search rules in
    c.advance.ensures.values x ∙ ap (λ (z : ℤ). dual_at c.self.inside.duals.values x +ℤ share z (label_at c.self.inside.duals.motions x)) back

pub invariant_of-self : goal.invariant_of-self
invariant_of-self c =
    advance_sound c.self.inside _ c.args.d c.self.invariant c.self.view_is c.requires.in_range c.requires.not_below
    c.advance.new.self (each c) c.advance.ensures.len c.advance.ensures.motions

pub returns-clause-duals : goal.returns-clause-duals
returns-clause-duals c = λ x.
    advanced_at c.self.inside _ c.args.d c.self.invariant c.self.view_is c.requires.in_range c.requires.not_below
    c.advance.new.self (each c) c.advance.ensures.len c.advance.ensures.motions x
    ∙ ap (λ (f : Family). dual_at f.duals x +ℤ gain f c.args.d x) c.self.view_is

pub returns-clause-is_family : goal.returns-clause-is_family
returns-clause-is_family c = (invariant_of-self c).family
