use Rattle.alt_forest.proofs.Common.{◌≡◌, vec_len, slice_index, edge_in}
use Rattle.augment.proofs.Ready.{IsOpening}
use Rattle.augment.proofs.opening.open_all.Given as goal

abbrev pub invariant-loop-b : goal.invariant-loop-b
invariant-loop-b l = record {
  opening : IsOpening l.graph l.arena (λ a. slice_index l.inner a) (edge_in l.fn.mates.items) l.b-iterator (edge_in l.mates.items);
  len : vec_len l.mates ≡ vec_len l.fn.mates;
}
