use Rattle.graph_theory.proofs.Common.{◌≡◌, ◌∙◌, ℤ, pos, ◌-ℤ◌, ◌*ℤ◌, cond, sym, ap, ap₂, rules, to_z, of_z, w64, w128}
use Rattle.blossom_arena.specs.Family.{dual_at}
use Rattle.alt_forest.specs.State.{slack_by}
use Rattle.alt_forest.specs.Searches.{is_given}
use Rattle.alt_forest.proofs.search.Search.slack_by.Goals as goal

pub returns-clause-slack : goal.returns-clause-slack
returns-clause-slack c =
    let back : to_z w128 (of_z w128 (to_z w128 (of_z w128 c.from.result) -ℤ to_z w128 (of_z w128 c.duals_across.result))) ≡ c.from.result -ℤ c.duals_across.result = search rules in
    let twice : c.from.result ≡ c.doubled.result = search rules in
    let kept : to_z w64 (of_z w64 c.args.edge.now.w) ≡ c.args.edge.now.w = search rules in
    back ∙ ap₂ ◌-ℤ◌ (twice ∙ c.doubled.ensures.doubled ∙ ap (λ (w : ℤ). cond (is_given c.args.self.now.weights) (pos 2 *ℤ w) (pos 0)) kept)
    c.duals_across.ensures.duals_across

pub returns-clause-same : goal.returns-clause-same
returns-clause-same c = λ e is.
    let s = c.args.self.now in
    returns-clause-slack c ∙ ap (slack_by (is_given s.weights) (dual_at s.arena.duals) s.arena.blossoms) (sym is)
