use Rattle.graph_theory.proofs.Common.{◌≡◌, ◌∙◌, ℕ, ℤ, true, Option, Some, refl, sym, ap, subst, arith, rules, to_z, of_z, w128}
use Rattle.blossom_arena.specs.Family.{is_vertex}
use Rattle.search_heap.specs.declared.item.Item.TheVariants.{Edge}
use Rattle.search_heap.specs.Moments.{Moments, moment_of}
use Rattle.alt_forest.specs.declared.search.Search.{Search}
use Rattle.search_tables.specs.declared.incident_edges.IncidentEdge.{IncidentEdge}
use Rattle.search_tables.specs.IncidentEdges.{IsIncidentEdge}
use Rattle.alt_forest.specs.Searches.{HasShape, IsSound, state_of}
use Rattle.alt_forest.specs.Entries.{NeedsMoment, entry_count}
use Rattle.alt_forest.proofs.Leads.{leads_vertex}
use Rattle.alt_forest.proofs.Needs.{none_needed}
use Rattle.alt_forest.proofs.Queues.{sound_set, edge_item, edge_set, edge_other, count_set}
use Rattle.alt_forest.proofs.entries.enter_edge.Goals as goal

far_vertex : (s : Search) (v : ℕ) (p : IncidentEdge) → HasShape s → IsIncidentEdge s.graph v p → is_vertex s.graph.vertices p.far ≡ true
far_vertex s v p h to = leads_vertex s.graph p.edge v p.far p.weight h.graph.graph to

pub outermost-node-requires : goal.outermost-node-requires
outermost-node-requires c = rw c.requires.sound.shape.arena (far_vertex c.args.search.now c.args.near.now.vertex c.args.incident.now c.requires.sound.shape c.requires.incident)

pub returns-in-Some : goal.returns-in-Some
returns-in-Some c =
    let s = c.args.search.now in let e : ℕ = c.args.incident.now.edge in
    let item = edge_item s e c.requires.sound.shape c.requires.incident.number in
    let back : to_z w128 (of_z w128 c.in-Some.moment) ≡ c.in-Some.moment = search rules in
    record {
      frame = refl;
      sound = subst (λ (q : Moments). IsSound (record s { queue = q })) (sym c.set_moment.ensures) (sound_set s (Edge e) _ c.requires.sound);
      entered = subst (NeedsMoment (state_of s) s.clock e) (sym (ap (λ (q : Moments). moment_of q (Edge e)) c.set_moment.ensures ∙ edge_set s.queue e _ item
          ∙ ap (λ (x : ℤ). let o : Option ℤ = Some x in o) back)) c.in-Some.ensures.moment;
      others = λ d ne. ap (λ (q : Moments). moment_of q (Edge d)) c.set_moment.ensures ∙ edge_other s.queue e d _ item ne;
      blossoms = ap (λ (q : Moments). q.blossoms) c.set_moment.ensures;
      count = omega (arith, ap entry_count c.set_moment.ensures, count_set s.queue e (to_z w128 (of_z w128 c.in-Some.moment)));
    }

pub returns-in_default-clause-entered : goal.returns-in_default-clause-entered
returns-in_default-clause-entered c = none_needed (state_of c.args.search.now) c.args.search.now.clock c.args.incident.now.edge _ (c.in_default.ensures.moment)
