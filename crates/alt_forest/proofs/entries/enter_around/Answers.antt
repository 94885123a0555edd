use Rattle.graph_theory.proofs.Common.{◌≡◌, ◌∙◌, ℕ, ◌<◌, List, [], length, get_or, refl, sym, ap, subst, arith, edge_of, edges_around, touches, slice_index_or, around-at}
use Rattle.graph_theory.proofs.Common.{pos, ◌≤ℤ◌, cond, rules, false}
use Rattle.graph_theory.specs.declared.limits.TheConstants.{NUMBER_LIMIT}
use Rattle.alt_forest.specs.declared.entries.Near.{Near}
use Rattle.alt_forest.specs.Ends.{IsNear}
use Rattle.blossom_arena.specs.declared.label.Label.{Label}
use Rattle.blossom_arena.specs.declared.label.Label.TheVariants.{Inner}
use Rattle.search_heap.specs.Moments.{Moments}
use Rattle.alt_forest.specs.Trees.{is_label}
use Rattle.alt_forest.specs.declared.search.Search.{Search}
use Rattle.search_tables.specs.declared.incident_edges.IncidentEdge.{IncidentEdge}
use Rattle.search_tables.specs.IncidentEdges.{IsIncidentEdge, numbers_of}
use Rattle.alt_forest.specs.Searches.{state_of, label_at}
use Rattle.alt_forest.specs.Entries.{IsEntered}
use Rattle.blossom_arena.proofs.Nested.{vertex_range}
use Rattle.alt_forest.proofs.EntrySteps.{entered_next, others_next, by_places}
use Rattle.search_tables.proofs.IncidenceLists.{incident_count, incident_number}
use Rattle.alt_forest.proofs.Incidence.{incidence_leads, incidence_around}
use Rattle.alt_forest.proofs.entries.enter_around.Goals as goal

pub loop-place-preserved : goal.loop-place-preserved
loop-place-preserved g c =
    let s = c.args.search.now in
    let v : ℕ = c.args.v in
    let place : ℕ = c.loop-place.place in
    let p : IncidentEdge = c.look-incident.result in
    let i = c.loop-place.invariant in
    let call = c.enter_edge.ensures in
    let r : Moments = c.enter_edge.new.search.queue in
    let xs = slice_index_or s.incidence v [] in
    let same : slice_index_or c.loop-place.search.incidence v [] ≡ xs = ap (λ (x : Search). slice_index_or x.incidence v []) i.frame in
    let at : p ≡ slice_index_or xs place p = c.look-incident.ensures.edge ∙ ap (λ (ys : List IncidentEdge). slice_index_or ys place p) same in
    let low : place < length xs = omega (arith, c.loop-place-test.true, c.degree-count.ensures) in
    let list : numbers_of xs ≡ edges_around s.graph v = incidence_around s v xs c.requires.sound.shape c.requires.vertex refl in
    let there : p.edge ≡ get_or (edges_around s.graph v) place 0 = incident_number xs (edges_around s.graph v) place p list low at in
    let touched = around-at s.graph v place 0 (omega (arith, low, incident_count xs (edges_around s.graph v) list)) in
    record {
      frame = call.frame ∙ ap (λ (x : Search). let y : Search = record x { queue = r } in y) i.frame;
      sound = call.sound;
      entered = entered_next (state_of s) s.clock c.loop-place.search.queue r (edges_around s.graph v) place p.edge there i.entered
          (subst (λ (x : Search). IsEntered (state_of x) x.clock r p.edge) i.frame call.entered) call.others;
      others = others_next s.graph v s.queue c.loop-place.search.queue r p.edge (ap (λ (e : ℕ). touches (edge_of s.graph e) v) there ∙ touched.1) i.others call.others;
      blossoms = call.blossoms ∙ i.blossoms;
      inspections = omega (arith, i.inspections, c.look-incident.ensures.counted);
      count = omega (arith, call.count, i.count);
    }

pub enter_edge-requires : goal.enter_edge-requires
enter_edge-requires g c =
    let s = c.args.search.now in
    let rest = c.loop-place.invariant.frame in
    let near : Near = c.near_of-near.result in
    let p : IncidentEdge = c.look-incident.result in
    let xs = slice_index_or s.incidence c.args.v [] in
    let same : slice_index_or c.loop-place.search.incidence c.args.v [] ≡ xs = ap (λ (x : Search). slice_index_or x.incidence c.args.v []) rest in
    let at : p ≡ slice_index_or xs c.loop-place.place p = c.look-incident.ensures.edge ∙ ap (λ (ys : List IncidentEdge). slice_index_or ys c.loop-place.place p) same in
    let leads : IsIncidentEdge s.graph c.args.v p = incidence_leads s c.args.v xs c.loop-place.place p c.requires.sound.shape c.requires.vertex refl
    (omega (arith, c.loop-place-test.true, c.degree-count.ensures)) at in
    record {
      sound = c.loop-place.invariant.sound;
      low = subst (λ (x : Search). pos 0 ≤ℤ x.clock) (sym rest) c.requires.low;
      high = subst (λ (x : Search). x.clock ≤ℤ NUMBER_LIMIT) (sym rest) c.requires.high;
      near = subst (λ (x : Search). IsNear (state_of x) near) (sym rest) c.near_of-near.ensures.near;
      incident = subst (λ (x : Search). IsIncidentEdge x.graph near.vertex p) (sym rest) (subst (λ (a : ℕ). IsIncidentEdge s.graph a p) (sym c.near_of-near.ensures.vertex) leads);
    }

pub returns-then-eq-clause-inspections : goal.returns-then-eq-clause-inspections
returns-then-eq-clause-inspections g c =
    let inner : c.label-label.result ≡ Inner = search rules in
    let label = ap (label_at c.args.search.now.labels.items) (sym c.outermost-node.ensures.node) ∙ sym c.label-label.ensures.label ∙ inner in
    omega (arith, ap (λ (l : Label). cond (is_label l Inner) 0 (length (edges_around c.args.search.now.graph c.args.v))) label)

pub returns : goal.returns
returns g c =
    let s : Search = c.args.search.now in
    let v : ℕ = c.args.v in
    let i = c.loop-place.invariant in
    let xs = slice_index_or s.incidence v [] in
    let count = incident_count xs (edges_around s.graph v) (incidence_around s v xs c.requires.sound.shape c.requires.vertex refl) in
    let all : c.loop-place.place ≡ length (edges_around s.graph v) = omega (arith, c.loop-place-test.false, c.loop-place.auto.place-end, c.degree-count.ensures, count) in
    let other : is_label c.label-label.result Inner ≡ false = search rules in
    let label = ap (λ a. is_label (label_at s.labels.items a) Inner) (sym c.outermost-node.ensures.node) ∙ ap (λ l. is_label l Inner) (sym c.label-label.ensures.label) ∙ other in
    record {
      frame = i.frame;
      sound = i.sound;
      entered = by_places (IsEntered (state_of s) s.clock c.loop-place.search.queue) s.graph v (λ k low. i.entered k (omega (arith, low, all)));
      others = i.others;
      blossoms = i.blossoms;
      inspections = omega (arith, i.inspections, all, ap (λ b. cond b 0 (length (edges_around s.graph v))) label);
      count = omega (arith, i.count, i.inspections);
    }

pub look-incident-requires : goal.look-incident-requires
look-incident-requires g c =
    let same = ap (λ (x : Search). slice_index_or x.incidence c.args.v []) c.loop-place.invariant.frame in
    record {
      vertex = omega (arith, ap (λ (x : Search). length x.incidence) c.loop-place.invariant.frame, c.requires.sound.shape.room.index.size, (vertex_range _ c.args.v c.requires.vertex).1);
      place = omega (arith, c.loop-place-test.true, c.degree-count.ensures, ap (λ (xs : List IncidentEdge). length xs) same);
    }

pub near_of-near-requires : goal.near_of-near-requires
near_of-near-requires g c =
    record { sound = c.requires.sound; vertex = c.requires.vertex; node = c.outermost-node.ensures.node; label = c.label-label.ensures.label }

pub degree-count-requires : goal.degree-count-requires
degree-count-requires g c = omega (arith, c.requires.sound.shape.room.index.size, (vertex_range _ c.args.v c.requires.vertex).1)

pub loop-place-init : goal.loop-place-init
loop-place-init g c = record {
  frame = refl;
  sound = c.requires.sound;
  entered = λ i low. absurd (omega (arith, low));
  others = λ e is no. refl;
  blossoms = refl;
  inspections = omega arith;
  count = omega arith;
}
