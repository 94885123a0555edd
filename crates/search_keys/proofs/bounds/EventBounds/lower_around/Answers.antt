use Rattle.alt_forest.proofs.Common.{◌≡◌, ℕ, get_or, subst, arith, below_more, edges_around, numbers_of, state_of, by_places, incidence_around, incidence_leads, incident_count}
use Rattle.alt_forest.proofs.Common.{incident_number}
use Rattle.search_tables.specs.declared.incident_edges.IncidentEdge.{IncidentEdge}
use Rattle.search_keys.specs.declared.bounds.EventBounds.{EventBounds}
use Rattle.search_keys.specs.Bounds.{key_from}
use Rattle.search_keys.specs.Keys.{HasGivenBy}
use Rattle.search_keys.proofs.Lower.{given_of}
use Rattle.search_keys.proofs.Lowered.{lowered_then}
use Rattle.search_keys.proofs.bounds.EventBounds.lower_around.Goals as goal

pub loop-incident-preserved : goal.loop-incident-preserved
loop-incident-preserved c =
    let s = c.args.search.now in let v : ℕ = c.args.giver.now.vertex in let place : ℕ = c.loop-incident.incident-index in let xs = c.args.edges.now in
    let p : IncidentEdge = c.incident-item.result in let new : EventBounds = c.lower.new.self in let i = c.loop-incident.invariant in
    let list : numbers_of xs ≡ edges_around s.graph v = incidence_around s v xs c.requires.sound.shape c.requires.giver.vertex c.requires.edges in
    let there : p.edge ≡ get_or (edges_around s.graph v) place 0 = incident_number xs (edges_around s.graph v) place p list c.loop-incident-test.true c.incident-item.is in
    let to = incidence_leads s v xs place p c.requires.sound.shape c.requires.giver.vertex c.requires.edges c.loop-incident-test.true c.incident-item.is in
    record {
      lowered = lowered_then s c.args.self.now c.loop-incident.self new i.lowered c.lower.ensures.lowered;
      given = below_more (λ k. HasGivenBy s new v (get_or (edges_around s.graph v) k 0)) place
          (λ k low u w leads apart. c.lower.ensures.lowered.keyed u (key_from (state_of s) s.clock v w) (i.given k low u w leads apart))
          (subst (HasGivenBy s new v) there (given_of s new v c.args.giver.now.node p.edge p.far p.weight to c.requires.giver.node c.lower.ensures.keyed));
    }

pub returns-clause-given : goal.returns-clause-given
returns-clause-given c = λ outer.
    let s = c.args.search.now in let v : ℕ = c.args.giver.now.vertex in let xs = c.args.edges.now in
    let list = incidence_around s v xs c.requires.sound.shape c.requires.giver.vertex c.requires.edges in
    by_places (HasGivenBy s c.loop-incident.self v) s.graph v
    (λ i low. c.loop-incident.invariant.given i (omega (arith, low, incident_count xs (edges_around s.graph v) list, c.loop-incident-test.false)))

pub returns-clause-lowered : goal.returns-clause-lowered
returns-clause-lowered c = c.loop-incident.invariant.lowered

pub lower-requires-clause-incident : goal.lower-requires-clause-incident
lower-requires-clause-incident c =
    incidence_leads c.args.search.now c.args.giver.now.vertex c.args.edges.now c.loop-incident.incident-index c.incident-item.result c.requires.sound.shape
    c.requires.giver.vertex c.requires.edges c.loop-incident-test.true c.incident-item.is
