use Rattle.alt_forest.proofs.Common.{◌≡◌, ◌<◌, ◌%◌, ◌≤◌, [], length, vec_len, AllByRecursion, Link, label_at, edge_in}
use Rattle.tree_steps.specs.Circuits.{mirror, last_edge}
use Rattle.tree_steps.specs.Expanded.{labels_up, parents_up}
use Rattle.tree_steps.proofs.pairs.climb_down.Given as goal

abbrev pub invariant-loop-left : goal.invariant-loop-left
invariant-loop-left l = record {
  even : length l.left % 2 ≡ 0;
  within : length l.left ≤ length l.links;
  labels : labels_up (label_at l.labels.items) (mirror l.fn.parent l.left []) ≡ labels_up (label_at l.fn.labels.items) (mirror l.fn.parent l.links []);
  parents : parents_up (edge_in l.parents.items) l.node (last_edge l.fn.parent l.left) l.fn.parent (mirror l.fn.parent l.left [])
      ≡ parents_up (edge_in l.fn.parents.items) l.fn.base (last_edge l.fn.parent l.links) l.fn.parent (mirror l.fn.parent l.links []);
  label_places : AllByRecursion (λ (k : Link). k.node < vec_len l.labels) l.left;
  parent_places : AllByRecursion (λ (k : Link). k.node < vec_len l.parents) l.left;
  place : l.node < vec_len l.parents;
  labels_len : vec_len l.labels ≡ vec_len l.fn.labels;
  parents_len : vec_len l.parents ≡ vec_len l.fn.parents;
}

abbrev pub decreases-loop-left : goal.decreases-loop-left
decreases-loop-left l = length l.left
