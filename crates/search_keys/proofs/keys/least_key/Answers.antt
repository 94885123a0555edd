use Rattle.alt_forest.proofs.Common.{◌≡◌, ℕ, get_or, subst, arith, below_more, edges_around, numbers_of, state_of, by_places, incidence_around, incidence_leads, incident_count}
use Rattle.alt_forest.proofs.Common.{incident_number}
use Rattle.search_tables.specs.declared.incident_edges.IncidentEdge.{IncidentEdge}
use Rattle.search_keys.specs.declared.keys.Least.{Least}
use Rattle.search_keys.specs.Keys.{IsNoLower}
use Rattle.search_keys.proofs.keys.least_key.Goals as goal

pub loop-incident-preserved : goal.loop-incident-preserved
loop-incident-preserved c =
    let s = c.args.search.now in let v : ℕ = c.args.v in let place : ℕ = c.loop-incident.incident-index in
    let xs = c.args.edges.now in let p : IncidentEdge = c.incident-item.result in let new : Least = c.lesser-least.result in
    let list : numbers_of xs ≡ edges_around s.graph v = incidence_around s v xs c.requires.sound.shape c.requires.vertex c.requires.edges in
    let there : p.edge ≡ get_or (edges_around s.graph v) place 0 = incident_number xs (edges_around s.graph v) place p list c.loop-incident-test.true c.incident-item.is in
    record {
      from = c.lesser-least.ensures.from;
      lowest = below_more (λ i. IsNoLower (state_of s) s.clock v new (get_or (edges_around s.graph v) i 0)) place
          (λ i low far w to apart. c.lesser-least.ensures.before _ (c.loop-incident.invariant.lowest i low far w to apart))
          (subst (IsNoLower (state_of s) s.clock v new) there c.lesser-least.ensures.here);
    }

pub returns-clause-least : goal.returns-clause-least
returns-clause-least c =
    let s = c.args.search.now in let v : ℕ = c.args.v in let xs = c.args.edges.now in
    let list = incidence_around s v xs c.requires.sound.shape c.requires.vertex c.requires.edges in
    by_places (IsNoLower (state_of s) s.clock v c.loop-incident.least) s.graph v
    (λ i low. c.loop-incident.invariant.lowest i (omega (arith, low, incident_count xs (edges_around s.graph v) list, c.loop-incident-test.false)))

pub returns-clause-from : goal.returns-clause-from
returns-clause-from c = c.loop-incident.invariant.from

pub lesser-least-requires-clause-incident : goal.lesser-least-requires-clause-incident
lesser-least-requires-clause-incident c = incidence_leads c.args.search.now c.args.v c.args.edges.now c.loop-incident.incident-index c.incident-item.result c.requires.sound.shape
    c.requires.vertex c.requires.edges c.loop-incident-test.true c.incident-item.is
