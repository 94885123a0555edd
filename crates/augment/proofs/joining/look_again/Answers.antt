use Rattle.alt_forest.proofs.Common.{◌≡◌, true, All, sym, subst, Multigraph, is_vertex}
use Rattle.augment.proofs.OuterLists.{rest_then, tree_nodes_then, side_vertices, side_queued}
use Rattle.augment.proofs.joining.look_again.Goals as goal

pub enter_scanned-requires-clause-vertices : goal.enter_scanned-requires-clause-vertices
enter_scanned-requires-clause-vertices g c =
    subst (λ (x : Multigraph). All (λ v. is_vertex x.vertices v ≡ true) c.take_smaller_side.new.search.scanned.items) (sym c.requires.same_graph) (side_vertices c.args.search.now
    c.take_smaller_side.new.search c.requires.sound c.requires.listed c.take_smaller_side.ensures.frame c.take_smaller_side.ensures.side c.requires.vertices)

pub enter_scanned-requires-clause-event_times : goal.enter_scanned-requires-clause-event_times
enter_scanned-requires-clause-event_times g c = side_queued c.args.search.now c.take_smaller_side.new.search c.requires.sound c.requires.listed c.take_smaller_side.ensures.frame
    c.take_smaller_side.ensures.side c.requires.event_times

pub returns-clause-listed : goal.returns-clause-listed
returns-clause-listed g c = tree_nodes_then c.args.search.now c.enter_scanned.new.self
    (rest_then c.args.search.now c.take_smaller_side.new.search c.enter_scanned.new.self c.take_smaller_side.ensures.frame c.enter_scanned.ensures.frame) c.requires.listed
