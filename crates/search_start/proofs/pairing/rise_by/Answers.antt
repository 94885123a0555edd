use Rattle.alt_forest.proofs.Common.{◌≡◌, ◌∙◌, sym, ap, subst, rules, to_z, of_z, w64, IsExposed, edge_in, state_of, leads_vertex}
use Rattle.alt_forest.proofs.Leads.{leads_touch, leads_end}
use Rattle.search_start.proofs.Flat.{outer_flat}
use Rattle.search_start.proofs.StartSearch.{rise_alone, rise_paired}
use Rattle.search_start.proofs.pairing.rise_by.Goals as goal

pub is_free-requires-clause-vertex : goal.is_free-requires-clause-vertex
is_free-requires-clause-vertex c =
    let p = c.args.incident.now in
    leads_vertex c.args.search.now.graph p.edge c.args.v p.far p.weight c.requires.sound.shape.graph.graph c.requires.incident

pub returns-then-is_free-clause-rise : goal.returns-then-is_free-clause-rise
returns-then-is_free-clause-rise c =
    let s = c.args.search.now in let p = c.args.incident.now in
    let back : to_z w64 (of_z w64 c.slack_at-by.result) ≡ c.slack_at-by.result = search rules in
    rise_paired s c.args.v p.edge _ c.requires.sound c.requires.started c.requires.incident.number (back ∙ c.slack_at-by.ensures.slack)
    (leads_touch s.graph p.edge c.args.v p.far p.weight c.requires.incident)
    (subst (IsExposed (state_of s)) (sym (leads_end s.graph p.edge c.args.v p.far p.weight c.requires.incident)) (
      outer_flat (state_of s) c.requires.started.alone p.far (leads_vertex s.graph p.edge c.args.v p.far p.weight c.requires.sound.shape.graph.graph c.requires.incident),
      c.is_free.ensures.0 c.if-is_free.true,
    ))

pub returns-clause-rise : goal.returns-clause-rise
returns-clause-rise c =
    let back : to_z w64 (of_z w64 c.slack_at-by.result) ≡ c.slack_at-by.result = search rules in
    rise_alone c.args.search.now c.args.v c.args.incident.now.edge _ c.requires.sound c.requires.started c.requires.incident.number (back ∙ c.slack_at-by.ensures.slack)

pub returns-clause-found : goal.returns-clause-found
returns-clause-found c = λ can.
    let s = c.args.search.now in let p = c.args.incident.now in
    sym c.if-is_free.false ∙ c.is_free.ensures.1 (sym (ap (edge_in s.mates.items) (leads_end s.graph p.edge c.args.v p.far p.weight c.requires.incident)) ∙ can.exposed.1)
