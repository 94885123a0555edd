use Rattle.graph_theory.proofs.Common.{◌≡◌, ◌∙◌, ℕ, ap, sym, subst, length, arith, rules, ℤ, ◌+ℤ◌, ints, IsNumber, to_z, of_z, w64}
use Rattle.blossom_arena.specs.Family.{dual_at, label_at}
use Rattle.blossom_arena.specs.Changes.{share}
use Rattle.blossom_arena.specs.Moving.{DualTable, IsTable, moved}
use Rattle.blossom_arena.proofs.Moving.{table_on, moved_on, length-moved}
use Rattle.blossom_arena.proofs.dual_table.Duals.advance.Goals as goal

pub raise_each-requires-clause-in_range : goal.raise_each-requires-clause-in_range
raise_each-requires-clause-in_range c =
    let back : c.args.d ≡ to_z w64 (of_z w64 c.args.d) = search rules in
    subst (λ (z : ℤ). (a : ℕ) → IsNumber (dual_at c.args.self.now.values a +ℤ share z (label_at c.args.self.now.motions a))) back c.requires.in_range

pub invariant_of-self : goal.invariant_of-self
invariant_of-self c =
    let clock : c.of-self-inside.result ≡ c.self.inside.shares +ℤ c.args.d = search rules in
    let in_range : (a : ℕ)
    → IsNumber (dual_at (moved c.self.inside.shares c.self.inside.bases.items c.self.inside.motions.items) a +ℤ share c.args.d (label_at c.self.inside.motions.items a)) =
    subst (λ (t : DualTable). (a : ℕ) → IsNumber (dual_at t.values a +ℤ share c.args.d (label_at t.motions a))) (sym c.self.view_is) c.requires.in_range in
    subst (λ (z : ℤ). IsTable (record c.self.inside { shares = z })) (sym clock)
    (table_on c.self.inside c.args.d c.self.invariant (omega (arith, ints, c.self.invariant.low, c.requires.low.le))
    (omega (arith, ints, c.if-d-clock.false, c.clock-clock.ensures)) in_range)

pub returns-clause-values : goal.returns-clause-values
returns-clause-values c = λ a.
    let clock : c.of-self-inside.result ≡ c.self.inside.shares +ℤ c.args.d = search rules in
    ap (λ (z : ℤ). dual_at (moved z c.self.inside.bases.items c.self.inside.motions.items) a) clock
    ∙ moved_on c.self.inside.shares c.args.d c.self.inside.bases.items c.self.inside.motions.items a c.self.invariant.motions
    ∙ ap (λ (t : DualTable). dual_at t.values a +ℤ share c.args.d (label_at t.motions a)) c.self.view_is

pub returns-clause-len : goal.returns-clause-len
returns-clause-len c =
    let moved = length-moved c.of-self-inside.result c.self.inside.bases.items c.self.inside.motions.items in
    omega (arith, moved, length-moved c.self.inside.shares c.self.inside.bases.items c.self.inside.motions.items, ap (λ (t : DualTable). length t.values) c.self.view_is)
