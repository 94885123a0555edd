use Rattle.graph_theory.proofs.Common.{◌≡◌, ◌⊎◌, ◌↔◌, ◌∙◌, sym, ap, subst, arith, Multigraph}
use Rattle.alt_forest.specs.declared.search.Search.{Search}
use Rattle.alt_forest.specs.Counts.{exposed_count, is_outside, tree_count}
use Rattle.alt_forest.specs.State.{State}
use Rattle.alt_forest.specs.Trees.{IsRoot}
use Rattle.alt_forest.specs.Searches.{label_at, state_of}
use Rattle.alt_forest.specs.Entries.{IsQueuedBut, entry_count, looks_left, ends_around, outside_ends}
use Rattle.alt_forest.specs.TreeNodes.{HasTreeNodes}
use Rattle.alt_forest.proofs.Places.{nested_of}
use Rattle.alt_forest.proofs.Queues.{tree_nodes_with}
use Rattle.alt_forest.proofs.Planted.{planted_state, planted_queued, root_looks, members_vertices}
use Rattle.alt_forest.proofs.search.Search.plant.Goals as goal

pub enter_scanned-requires-clause-vertices : goal.enter_scanned-requires-clause-vertices
enter_scanned-requires-clause-vertices g c =
    let s : Search = c.args.self.now in
    rw (c.requires.same_graph, c.make_root.ensures.scanned) (members_vertices s.graph.vertices s.arena.blossoms c.args.v (nested_of s c.requires.sound.shape) c.requires.exposed.0)

pub enter_scanned-requires-clause-event_times : goal.enter_scanned-requires-clause-event_times
enter_scanned-requires-clause-event_times g c =
    subst (IsQueuedBut c.make_root.new.self) (sym c.make_root.ensures.scanned)
    (planted_queued c.args.self.now c.make_root.new.self c.args.v c.make_root.ensures.frame c.make_root.ensures.labels c.requires.sound c.requires.exposed c.requires.out
    c.requires.event_times)

pub returns : goal.returns
returns g c =
    let s : Search = c.args.self.now in let t : Search = c.make_root.new.self in let m = c.make_root.ensures in
    let e = c.enter_scanned.ensures in let state = ap state_of e.frame in
    let same = state ∙ planted_state s t c.args.v m.frame m.labels c.requires.sound c.requires.exposed c.requires.out in
    let fall = root_looks (state_of s) c.args.v (nested_of s c.requires.sound.shape) c.requires.exposed.0 c.requires.out in
    let copy = ap (λ (k : Multigraph). ends_around k t.scanned.items) c.requires.same_graph in
    record {
      labels = ap (λ (x : Search). label_at x.labels.items) e.frame ∙ m.labels;
      frame = e.frame ∙ ap (λ (x : Search). let y : Search = record x { queue = c.enter_scanned.new.self.queue } in y) m.frame
          ∙ sym (ap (λ (x : Search). let y : Search = record s {
            arena = record s.arena { motions = x.arena.motions };
            labels = x.labels;
            queue = x.queue;
            tree_nodes = x.tree_nodes;
            scanned = x.scanned;
          } in y) e.frame);
      roots = λ a. subst (λ (x : State). IsRoot x a ↔ (IsRoot (state_of s) a ⊎ (a ≡ c.args.v))) (sym state) (m.roots a);
      trees = ap tree_count state ∙ m.trees;
      exposed = ap exposed_count state ∙ m.exposed;
      sound = e.sound;
      event_times = e.event_times;
      listed = subst HasTreeNodes (sym e.frame) (tree_nodes_with t c.enter_scanned.new.self.queue m.listed);
      inside = λ w o. m.inside w (sym (ap (λ (x : State). is_outside x w) state) ∙ o);
      inspections = omega (arith, e.inspections, fall, copy, ap (ends_around s.graph) m.scanned, ap looks_left same);
      edge_ends = omega (arith, e.inspections, m.ends, copy, ap outside_ends state);
      count = omega (arith, e.count, ap (λ (x : Search). entry_count x.queue) m.frame);
    }
