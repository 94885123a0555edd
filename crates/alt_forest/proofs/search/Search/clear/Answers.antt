use Rattle.graph_theory.proofs.Common.{◌∙◌, refl, sym, subst}
use Rattle.search_heap.proofs.Maps.{new_has_none}
use Rattle.alt_forest.specs.Searches.{HasShape, IsSound, state_of, label_at}
use Rattle.alt_forest.proofs.Relabelled.{cleared}
use Rattle.alt_forest.proofs.Counted.{no_roots}
use Rattle.alt_forest.proofs.NoTree.{none_queued, none_tree_nodes, room_cleared}
use Rattle.alt_forest.proofs.search.Search.clear.Goals as goal

pub remove_trees-requires : goal.remove_trees-requires
remove_trees-requires c =
    let h = c.requires.sound.shape in
    record { shape = assumption (c.wipe_labels.ensures.len ∙ h.labels, room_cleared c.args.self.now c.clear.new.self c.clear.ensures h, h) }

pub returns-clause-sound : goal.returns-clause-sound
returns-clause-sound c =
    let h = c.requires.sound in
    subst IsSound (sym c.remove_trees.ensures.frame) (record {
      shape = subst HasShape c.remove_trees.ensures.frame c.remove_trees.ensures.shape;
      depth = h.depth;
      state = cleared (state_of c.args.self.now) (label_at c.wipe_labels.new.labels.items) h.depth h.state c.wipe_labels.ensures.out;
    })

pub returns-clause-trees : goal.returns-clause-trees
returns-clause-trees c = no_roots (state_of c.remove_trees.new.self) (rw c.remove_trees.ensures.frame c.wipe_labels.ensures.out)

pub returns-clause-event_times : goal.returns-clause-event_times
returns-clause-event_times c = none_queued c.remove_trees.new.self (rw c.remove_trees.ensures.frame c.wipe_labels.ensures.out) (rw c.remove_trees.ensures.frame refl)
    (rw (c.remove_trees.ensures.frame, c.clear.ensures) (new_has_none _ _))

pub returns-clause-listed : goal.returns-clause-listed
returns-clause-listed c = none_tree_nodes c.remove_trees.new.self (rw c.remove_trees.ensures.frame c.wipe_labels.ensures.out) c.remove_trees.ensures.motions
    (rw c.remove_trees.ensures.frame c.remove_trees.ensures.listed)
