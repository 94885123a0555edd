use Rattle.alt_forest.proofs.Common.{◌≡◌, None, vec_len, AllByRecursion, IsOutermost, path_of, state_of, edge_in}
use Rattle.augment.proofs.Flipped.{flipped}
use Rattle.augment.proofs.turning.uproot_in.Given as goal

abbrev pub invariant-loop-node : goal.invariant-loop-node
invariant-loop-node l = record {
  flips : flipped (state_of l.search) (edge_in l.mates.items) l.last l.node-iterator ≡ flipped (state_of l.search) (edge_in l.fn.mates.items) None (path_of (state_of l.search) l.fn.far);
  each : AllByRecursion (IsOutermost (state_of l.search)) l.node-iterator;
  len : vec_len l.mates ≡ vec_len l.fn.mates;
}
