use Rattle.graph_theory.proofs.Common.{◌≡◌, ◌≤◌, ◌<◌, ⊎_elim, ap, subst, arith, rules, to_z, of_z, w64, ℤ, pos, ◌+ℤ◌, cases_lt, get_or_past}
use Rattle.blossom_arena.specs.declared.label.Label.TheVariants.{Out}
use Rattle.blossom_arena.specs.Family.{label_at, dual_at}
use Rattle.blossom_arena.specs.Changes.{share}
use Rattle.blossom_arena.proofs.Moving.{stays}
use Rattle.blossom_arena.proofs.dual_table.Duals.raise_each.Goals as goal

pub returns-clause-values : goal.returns-clause-values
returns-clause-values c = λ a. ⊎_elim
    (λ (low : a < c.loop-place.place).
    let back : to_z w64 (of_z w64 c.args.d) ≡ c.args.d = search rules in
    subst (λ (z : ℤ). dual_at c.loop-place.self.values a ≡ dual_at c.args.self.now.values a +ℤ share z (label_at c.args.self.now.motions a)) back (c.loop-place.invariant.done a low))
    (λ (high : c.loop-place.place ≤ a).
    let rests : share c.args.d (label_at c.args.self.now.motions a) ≡ pos 0 =
    ap (share c.args.d) (get_or_past c.args.self.now.motions a Out (omega (arith, high, c.loop-place-test.false, c.len-place-end.ensures.motions))) in
    stays _ _ _ rests (c.loop-place.invariant.left a high))
    (cases_lt a c.loop-place.place)
