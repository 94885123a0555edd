use Rattle.graph_theory.proofs.Common.{◌≡◌, ◌∙◌, ℕ, ◌+◌, ◌<◌, ◌≤◌, false, List, [], ◌∷◌, length, get_or, drop, add-one, sym, ap, ap₂, subst, arith}
use Rattle.graph_theory.proofs.Common.{get_or_read, Multigraph, IsEdgeNumber, edge_of, edges_around, touches}
use Rattle.std.proofs.Math.Seq.{drop-cons}
use Rattle.std.proofs.lemmas.List.{drop_all}
use Rattle.blossom_arena.specs.Family.{is_vertex}
use Rattle.search_heap.specs.declared.item.Item.TheVariants.{Edge}
use Rattle.search_heap.specs.Moments.{Moments, moment_of}
use Rattle.alt_forest.specs.declared.search.Search.{Search}
use Rattle.alt_forest.specs.Entries.{IsQueuedBut, ends_around, ends_looked}
use Rattle.alt_forest.specs.Searches.{state_of}
use Rattle.alt_forest.proofs.EntrySteps.{but_none_queued, looked_most, looked_next, missed_at, vertex_entered}
use Rattle.alt_forest.proofs.search.Search.enter_scanned.Goals as goal

pub loop-place-preserved : goal.loop-place-preserved
loop-place-preserved g c =
    let s : Search = c.args.self.now in let l : Search = c.loop-place.self in let items : List ℕ = s.scanned.items in
    let place : ℕ = c.loop-place.place in let v : ℕ = c.index-v.result.now in let i = c.loop-place.invariant in
    let call = c.enter_around.ensures in let r : Moments = c.enter_around.new.search.queue in
    let same : l.scanned.items ≡ items = ap (λ (x : Search). x.scanned.items) i.frame in
    let low : place < length items = omega (arith, c.loop-place-test.true, c.len-place-end.ensures) in
    let is : v ≡ get_or items place 0 = get_or_read l.scanned.items place v (omega (arith, low, ap length same)) c.index-v.ensures 0 ∙ ap (λ (xs : List ℕ). get_or xs place 0) same in
    let step : drop place items ≡ v ∷ drop (place + 1) items = drop-cons items place 0 low ∙ ap₂ (λ (x k : ℕ). x ∷ drop k items) (sym is) (sym (add-one place)) in
    let graph : c.args.graph.now ≡ l.graph = c.requires.same_graph ∙ sym (ap (λ (x : Search). x.graph) i.frame) in
    let others : (e : ℕ) → IsEdgeNumber c.args.graph.now e → touches (edge_of c.args.graph.now e) v ≡ false → moment_of r (Edge e) ≡ moment_of l.queue (Edge e) =
    subst (λ (k : Multigraph). (e : ℕ) → IsEdgeNumber k e → touches (edge_of k e) v ≡ false → moment_of r (Edge e) ≡ moment_of l.queue (Edge e)) (sym graph) call.others in
    record {
      frame = call.frame ∙ ap (λ (x : Search). let y : Search = record x { queue = r } in y) i.frame;
      sound = call.sound;
      event_times = vertex_entered l c.enter_around.new.search v (drop (place + 1) items) call.frame (subst (IsQueuedBut l) step i.event_times)
          call.entered call.others call.blossoms;
      inspections = omega (
        arith,
        call.inspections,
        looked_most (state_of l) v,
        i.inspections,
        ap (λ (k : Multigraph). length (edges_around k v)) graph,
        ap (ends_around c.args.graph.now) step,
      );
      edge_ends = omega (
        arith,
        call.inspections,
        i.edge_ends,
        ap (λ (x : Search). ends_looked (state_of x) (v ∷ [])) i.frame,
        ap (ends_looked (state_of s)) step,
        looked_next (state_of s) v (drop (place + 1) items),
      );
      others = λ e number none. others e number (ap (touches (edge_of c.args.graph.now e)) is ∙ missed_at items place (edge_of c.args.graph.now e) low none) ∙ i.others e number none;
      blossoms = call.blossoms ∙ i.blossoms;
      count = omega (arith, call.count, i.count);
    }

pub returns : goal.returns
returns g c =
    let i = c.loop-place.invariant in
    let past : length c.args.self.now.scanned.items ≤ c.loop-place.place = omega (arith, c.loop-place-test.false, c.len-place-end.ensures) in
    record {
      frame = i.frame;
      sound = i.sound;
      event_times = but_none_queued _ _ c.args.self.now.scanned.items past i.event_times;
      inspections = omega (arith, i.inspections);
      edge_ends = omega (arith, i.edge_ends, ap (ends_looked (state_of c.args.self.now)) (drop_all c.loop-place.place c.args.self.now.scanned.items past));
      others = i.others;
      blossoms = i.blossoms;
      count = i.count;
    }

pub enter_around-requires : goal.enter_around-requires
enter_around-requires g c =
    let i = c.loop-place.invariant in let v : ℕ = c.index-v.result.now in
    let at : v ≡ get_or c.args.self.now.scanned.items c.loop-place.place v = c.index-v.ensures ∙ ap (λ (x : Search). get_or x.scanned.items c.loop-place.place v) i.frame in
    let there = c.requires.vertices c.loop-place.place v (omega (arith, c.loop-place-test.true, c.len-place-end.ensures)) in
    let vertex = ap (λ (x : Search). is_vertex x.graph.vertices v) i.frame ∙ ap (λ (k : Multigraph). is_vertex k.vertices v) (sym c.requires.same_graph)
    ∙ ap (is_vertex c.args.graph.now.vertices) at ∙ there in
    record { sound = i.sound; low = i.event_times.low; high = i.event_times.high; vertex = vertex }
