use Rattle.alt_forest.proofs.Common.{◌≡◌, length, HasShape, label_at, AreListed, AreMoving, tree_id_at}
use Rattle.augment.proofs.Felled.{IsFelling}
use Rattle.augment.proofs.dissolving.fell.Given as goal

abbrev pub invariant-list : goal.invariant-list
invariant-list l = record {
  frame : l.search ≡ record l.fn.search {
    arena = record l.fn.search.arena { motions = l.search.arena.motions };
    labels = l.search.labels;
    tree_nodes = l.search.tree_nodes;
    scanned = l.search.scanned;
  };
  shape : HasShape l.search;
  listed : AreListed l.search.graph.vertices l.search.tree_nodes.nodes l.search.tree_nodes.tree_ids;
  moving : AreMoving l.search;
  felling : IsFelling l.fn.search l.one l.other (label_at l.search.labels.items) (tree_id_at l.search.tree_nodes.tree_ids) l.search.scanned.items;
}

abbrev pub decreases-list : goal.decreases-list
decreases-list l = length l.search.tree_nodes.nodes
