use Rattle.graph_theory.proofs.Common.{◌≡◌, ◌∙◌, ℤ, pos, ◌-ℤ◌, ◌*ℤ◌, cond, rules, to_z, of_z, ap, sym, subst, w64, w128}
use Rattle.graph_theory.proofs.Common.{Multigraph, IsWeight, edge_of, edge_of_within, edge_of-weight}
use Rattle.graph_theory.specs.declared.edge.Edge.{Edge}
use Rattle.blossom_arena.specs.Family.{dual_at}
use Rattle.blossom_arena.specs.Slack.{duals_across}
use Rattle.alt_forest.specs.Searches.{is_given}
use Rattle.alt_forest.proofs.Certified.{certified, same_edge}
use Rattle.alt_forest.proofs.search.Search.slack.Goals as goal

pub slack_by-requires-clause-weight : goal.slack_by-requires-clause-weight
slack_by-requires-clause-weight g c =
    let kept : to_z w64 (of_z w64 c.look-u.result.2) ≡ c.look-u.result.2 = search rules in
    subst IsWeight (sym (kept ∙ c.look-u.ensures.weight)) (edge_of-weight c.args.graph.now c.args.e c.look-u.ensures.graph c.requires.edge)

pub returns : goal.returns
returns g c =
    let s = c.args.self.now in
    let back : to_z w128 (of_z w128 c.slack_by.result) ≡ c.slack_by.result = search rules in
    let kept : to_z w64 (of_z w64 c.look-u.result.2) ≡ c.look-u.result.2 = search rules in
    let e : Edge = edge_of c.args.graph.now c.args.e in
    let found : Edge = record { u = c.look-u.result.0; v = c.look-u.result.1; w = to_z w64 (of_z w64 c.look-u.result.2) } in
    let same : found ≡ e = same_edge found e c.look-u.ensures.from c.look-u.ensures.to (kept ∙ c.look-u.ensures.weight) in
    let felt : Edge → ℤ = λ x. cond (is_given s.weights) (pos 2 *ℤ x.w) (pos 0) -ℤ duals_across (dual_at s.arena.duals) s.arena.blossoms x in
    let within = edge_of_within c.args.graph.now c.args.e c.look-u.ensures.graph.ends c.requires.edge in
    record {
      slack = back ∙ c.slack_by.ensures.same c.args.e (ap (λ (k : Multigraph). edge_of k c.args.e) (sym c.requires.graph) ∙ sym same);
      certificate = back ∙ c.slack_by.ensures.slack ∙ ap felt same ∙ certified c.args.graph.now.vertices s.arena.duals s.arena.blossoms s.weights e within;
      step = c.look-u.ensures.step;
    }
