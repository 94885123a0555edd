use Rattle.tree_steps.proofs.Left.{only_queue}
use Rattle.alt_forest.proofs.Common.{◌≡◌, ◌∙◌, ℕ, List, None, sym, ap, subst, arith, ⊎_elim, cases_eq, Multigraph, IsEdgeNumber, edge_of, Moments, moment_of, with_moment}
use Rattle.alt_forest.proofs.Common.{count_removed, All, true, is_vertex, ends_around, NeedsMoment, IsQueuedBut, entry_count, touches_any, HasShape, state_of, edge_item, edge_set}
use Rattle.alt_forest.proofs.Common.{edge_other}
use Rattle.alt_forest.specs.declared.search.Search.{Search}
use Rattle.search_heap.specs.declared.item.Item.TheVariants.{Edge as OfEdge}
use Rattle.tree_steps.proofs.scanning.look_on.Goals as goal

-- an edge that needs no moment may lose its own
dropped : (f k : Search) (e : ℕ) (vs : List ℕ) → HasShape f → IsEdgeNumber f.graph e → k ≡ record f { queue = k.queue } → k.queue ≡ with_moment f.queue (OfEdge e) None
    → NeedsMoment (state_of f) f.clock e None → IsQueuedBut f vs → IsQueuedBut k vs
dropped f k e vs shape is rest removed free q =
    subst (λ (y : Search). IsQueuedBut y vs) (sym (rest ∙ ap (λ (m : Moments). let y : Search = record f { queue = m } in y) removed)) (record {
      low = q.low;
      high = q.high;
      edges = λ d d_is out. ⊎_elim
          (λ at. subst (λ a. NeedsMoment (state_of f) f.clock a (moment_of (with_moment f.queue (OfEdge e) None) (OfEdge a))) (sym at)
          (subst (NeedsMoment (state_of f) f.clock e) (sym (edge_set f.queue e None (edge_item f e shape is))) free))
          (λ ne. subst (NeedsMoment (state_of f) f.clock d) (sym (edge_other f.queue e d None (edge_item f e shape is) ne)) (q.edges d d_is out)) (cases_eq d e);
      blossoms = q.blossoms;
      tree = q.tree;
    })

pub enter_scanned-requires-clause-event_times : goal.enter_scanned-requires-clause-event_times
enter_scanned-requires-clause-event_times g c =
    let f = c.args.search.now in let k = c.drop_entry.new.search in
    subst (λ (y : Search). IsQueuedBut k y.scanned.items) (sym c.drop_entry.ensures.frame)
    (dropped f k c.args.e f.scanned.items c.requires.sound.shape c.requires.edge c.drop_entry.ensures.frame c.drop_entry.ensures.queue (c.requires.free None) c.requires.event_times)

pub returns-clause-taken : goal.returns-clause-taken
returns-clause-taken g c =
    let f = c.args.search.now in
    c.enter_scanned.ensures.others c.args.e (subst (λ (d : Multigraph). IsEdgeNumber d c.args.e) (sym c.requires.same_graph) c.requires.edge)
    (ap (λ (y : Search). touches_any y.scanned.items (edge_of c.args.graph.now c.args.e)) c.drop_entry.ensures.frame
    ∙ ap (λ (d : Multigraph). touches_any f.scanned.items (edge_of d c.args.e)) c.requires.same_graph ∙ c.requires.missed)
    ∙ ap (λ (m : Moments). moment_of m (OfEdge c.args.e)) c.drop_entry.ensures.queue ∙ edge_set f.queue c.args.e None (edge_item f c.args.e c.requires.sound.shape c.requires.edge)

pub returns-clause-count : goal.returns-clause-count
returns-clause-count g c =
    omega (arith, ap entry_count c.drop_entry.ensures.queue, count_removed c.args.search.now.queue c.args.e c.requires.had.0 c.requires.had.1, c.enter_scanned.ensures.count)

pub drop_entry-requires-clause-item : goal.drop_entry-requires-clause-item
drop_entry-requires-clause-item g c = edge_item c.args.search.now c.args.e c.requires.sound.shape c.requires.edge

pub enter_scanned-requires-clause-same_graph : goal.enter_scanned-requires-clause-same_graph
enter_scanned-requires-clause-same_graph g c = c.requires.same_graph ∙ sym (ap (λ (y : Search). y.graph) c.drop_entry.ensures.frame)

pub enter_scanned-requires-clause-vertices : goal.enter_scanned-requires-clause-vertices
enter_scanned-requires-clause-vertices g c =
    subst (λ (y : Search). All (λ v. is_vertex c.args.graph.now.vertices v ≡ true) y.scanned.items) (sym c.drop_entry.ensures.frame)
    (subst (λ (d : Multigraph). All (λ v. is_vertex d.vertices v ≡ true) c.args.search.now.scanned.items) (sym c.requires.same_graph) c.requires.vertices)

pub returns-clause-frame : goal.returns-clause-frame
returns-clause-frame g c = only_queue c.args.search.now c.drop_entry.new.search c.enter_scanned.new.self c.drop_entry.ensures.frame c.enter_scanned.ensures.frame

pub returns-clause-inspections : goal.returns-clause-inspections
returns-clause-inspections g c = omega (
  arith,
  c.enter_scanned.ensures.inspections,
  ap (λ (y : Search). ends_around c.args.graph.now y.scanned.items) c.drop_entry.ensures.frame,
  ap (λ (d : Multigraph). ends_around d c.args.search.now.scanned.items) c.requires.same_graph,
)
