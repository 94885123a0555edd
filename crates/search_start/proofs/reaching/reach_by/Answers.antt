use Rattle.alt_forest.proofs.Common.{◌≡◌, ◌∙◌, pos, ◌*ℤ◌, ◌≤ℤ◌, sym, subst, rules, to_z, of_z, w64, WEIGHT_LIMIT, state_of, SameParity, leads_vertex}
use Rattle.alt_forest.proofs.Leads.{leads_touch, leads_end}
use Rattle.search_start.proofs.Reaches.{slack_most}
use Rattle.search_start.proofs.StartDuals.{slack_even}
use Rattle.search_start.proofs.reaching.reach_by.Goals as goal

pub returns-clause-reach : goal.returns-clause-reach
returns-clause-reach c =
    let s = c.args.search.now in let p = c.args.incident.now in let h = c.requires.sound in
    let to = c.requires.incident in let graph = h.shape.graph.graph in
    let back : to_z w64 (of_z w64 c.slack_at.result) ≡ c.slack_at.result = search rules in
    let is = sym (back ∙ c.slack_at.ensures.slack) in
    record {
      is_edge = to.number;
      at_vertex = leads_touch s.graph p.edge c.args.v p.far p.weight to;
      far_is = leads_end s.graph p.edge c.args.v p.far p.weight to;
      far_vertex = leads_vertex s.graph p.edge c.args.v p.far p.weight graph to;
      slack_is = is;
      low = subst (λ x. pos 0 ≤ℤ x) is (h.state.slacks p.edge to.number);
      high = subst (λ x. x ≤ℤ (pos 4 *ℤ WEIGHT_LIMIT)) is (slack_most (state_of s) s.start p.edge graph c.requires.started to.number);
      even = subst (λ x. SameParity x (pos 0)) is (slack_even (state_of s) s.start p.edge graph.ends c.requires.started to.number);
    }
