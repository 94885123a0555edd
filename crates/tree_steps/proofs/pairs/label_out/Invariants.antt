use Rattle.alt_forest.proofs.Common.{◌≡◌, ◌<◌, length, vec_len, AllByRecursion, Link, label_at}
use Rattle.tree_steps.specs.Expanded.{labelled_out}
use Rattle.tree_steps.proofs.pairs.label_out.Given as goal

abbrev pub invariant-loop-left : goal.invariant-loop-left
invariant-loop-left l = record {
  labels : labelled_out (label_at l.labels.items) l.left ≡ labelled_out (label_at l.fn.labels.items) l.links;
  places : AllByRecursion (λ (k : Link). k.node < vec_len l.labels) l.left;
  len : vec_len l.labels ≡ vec_len l.fn.labels;
}

abbrev pub decreases-loop-left : goal.decreases-loop-left
decreases-loop-left l = length l.left
