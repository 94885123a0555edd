use Rattle.graph_theory.proofs.Common.{◌≡◌, ◌∙◌, ℕ, true, refl, ap, sym, subst, rules, to_z, of_z, w64, Multigraph}
use Rattle.blossom_arena.specs.Family.{is_vertex, dual_at}
use Rattle.search_heap.proofs.Maps.{new_has_none}
use Rattle.alt_forest.specs.declared.search.Search.{Search}
use Rattle.alt_forest.specs.Searches.{HasShape, IsSound, state_of, label_at, edge_in}
use Rattle.alt_forest.proofs.Fresh.{fresh}
use Rattle.alt_forest.proofs.Counted.{no_roots, all_exposed}
use Rattle.alt_forest.proofs.NoTree.{none_queued, none_tree_nodes, room_cleared}
use Rattle.alt_forest.proofs.search.Search.begin.Goals as goal

pub remove_trees-requires : goal.remove_trees-requires
remove_trees-requires c =
    let h = c.requires.shape in
    let count : c.clear.new.self.vertex_count ≡ c.args.self.now.graph.vertices = ap (λ f. f.vertex_count) c.clear.ensures.family ∙ h.arena in
    record {
      shape = assumption (
        c.give_duals.ensures.is_family,
        c.give_duals.ensures.count ∙ count,
        c.wipe_labels.ensures.len ∙ h.labels,
        c.wipe_edges.ensures.len ∙ h.parents,
        c.wipe_edges-2.ensures.len ∙ h.mates,
        room_cleared c.args.self.now c.clear-2.new.self c.clear-2.ensures h,
        h,
      );
    }

pub returns : goal.returns
returns c =
    let t : Search = c.remove_trees.new.self in let g : Multigraph = c.args.self.now.graph in
    let rest = c.remove_trees.ensures.frame in let out = c.wipe_labels.ensures.out in let given = c.give_duals.ensures in
    let count : c.clear.new.self.vertex_count ≡ g.vertices = ap (λ f. f.vertex_count) c.clear.ensures.family ∙ c.requires.shape.arena in
    let back : to_z w64 (of_z w64 c.args.start) ≡ c.args.start = search rules in
    let duals = λ (v : ℕ) (iv : is_vertex g.vertices v ≡ true). given.duals v (ap (λ (n : ℕ). is_vertex n v) count ∙ iv) ∙ back in
    record {
      blossoms = ap (λ (x : Search). x.arena.blossoms) rest ∙ given.blossoms;
      duals = λ v iv. ap (λ (x : Search). dual_at x.arena.duals v) rest ∙ duals v iv;
      labels = λ a. ap (λ (x : Search). label_at x.labels.items a) rest ∙ out a;
      parents = λ a. ap (λ (x : Search). edge_in x.parents.items a) rest ∙ c.wipe_edges.ensures.none a;
      mates = λ a. ap (λ (x : Search). edge_in x.mates.items a) rest ∙ c.wipe_edges-2.ensures.none a;
      weights = ap (λ (x : Search). x.weights) rest;
      start = ap (λ (x : Search). x.start) rest ∙ back;
      graph = ap (λ (x : Search). x.graph) rest;
      circuit = ap (λ (x : Search). x.circuit) rest;
      trees = no_roots (state_of t) (rw rest out);
      exposed = all_exposed (state_of t) (rw rest given.blossoms) (rw rest c.wipe_edges-2.ensures.none);
      incidence = ap (λ (x : Search). x.incidence) rest;
      clock = ap (λ (x : Search). x.clock) rest;
      sound = subst IsSound (sym rest) (record {
        shape = subst HasShape rest c.remove_trees.ensures.shape;
        depth = λ a. 0;
        state = fresh _ c.args.weights c.args.start refl c.requires.shape.graph.graph c.requires.start given.blossoms out c.wipe_edges-2.ensures.none duals;
      });
      event_times = none_queued t (rw rest out) (rw rest refl) (rw (rest, c.clear-2.ensures) (new_has_none _ _));
      listed = none_tree_nodes t (rw rest out) c.remove_trees.ensures.motions (rw rest c.remove_trees.ensures.listed);
    }
