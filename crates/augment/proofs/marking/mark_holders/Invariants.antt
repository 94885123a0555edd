use Rattle.alt_forest.proofs.Common.{◌≡◌, ◌<◌, vec_len, AllByRecursion, chain_of, edge_in}
use Rattle.augment.specs.Opening.{marked, up_to}
use Rattle.augment.proofs.marking.mark_holders.Given as goal

abbrev pub invariant-loop-holder : goal.invariant-loop-holder
invariant-loop-holder l = record {
  mates : marked (edge_in l.mates.items) (up_to l.holder-iterator l.stop) l.e ≡ marked (edge_in l.fn.mates.items) (up_to (chain_of l.arena.blossoms l.fn.v) l.stop) l.e;
  each : AllByRecursion (λ c. c < vec_len l.mates) l.holder-iterator;
  len : vec_len l.mates ≡ vec_len l.fn.mates;
}
