use Rattle.alt_forest.proofs.Common.{◌≡◌, ◌∙◌, true, refl, sym, subst, rules, to_z, of_z, w128, holds, names_of, dual_at, Inner, IsOutermost, state_of, label_at, low_at}
use Rattle.alt_forest.proofs.Common.{nested_of}
use Rattle.dual_change.specs.declared.event.Event.TheVariants.{Expand}
use Rattle.dual_change.specs.Candidates.{Leads}
use Rattle.dual_change.proofs.Raised.{outer_by}
use Rattle.dual_change.proofs.Least.{leads_expand}
use Rattle.dual_change.proofs.find_by_queue.by_blossom.Goals as goal

pub returns-in-Inner-clause-candidate : goal.returns-in-Inner-clause-candidate
returns-in-Inner-clause-candidate c =
    let s = c.args.search.now in let sound = c.requires.sound in
    let name : holds (names_of s.arena.blossoms) c.args.b ≡ true = sym c.is_blossom.ensures.blossom ∙ c.if-not-is_blossom.false in
    let is : IsOutermost (state_of s) c.args.b = outer_by s c.args.b c.args.b sound.shape (sym c.is_outermost.ensures.outermost ∙ c.if-not-is_outermost.false) refl in
    let label : label_at s.labels.items c.args.b ≡ Inner = sym c.label.ensures.label ∙ c.in-Inner.is in
    let back : to_z w128 (of_z w128 c.from.result) ≡ c.dual.result = search (rules, c.from.ensures) in
    subst (λ x. Leads (state_of s) x (Expand c.args.b)) (sym (back ∙ c.dual.ensures.dual))
    (leads_expand (state_of s) sound.depth sound.shape.graph.graph (nested_of s sound.shape) c.args.b name is label
    (low_at (dual_at s.arena.duals) s.arena.blossoms c.args.b sound.state.duals name))
