use Rattle.alt_forest.proofs.Common.{◌≡◌, vec_len, AllByRecursion, ForSome, IsEdgeNumber, Link, edge_in}
use Rattle.augment.specs.Opening.{links_before, spread_in, paired, waiting_after}
use Rattle.augment.proofs.opening.pair_until.Given as goal

abbrev pub invariant-loop-link : goal.invariant-loop-link
invariant-loop-link l = record {
  mates : paired (spread_in l.graph l.arena.blossoms l.b) (edge_in l.mates.items) l.first (links_before l.link-iterator l.node) ≡ paired (spread_in l.graph l.arena.blossoms l.b)
      (edge_in l.fn.mates.items) l.fn.waiting (links_before l.fn.links l.node);
  waiting : waiting_after l.first (links_before l.link-iterator l.node) ≡ waiting_after l.fn.waiting (links_before l.fn.links l.node);
  first : ForSome l.first (λ (k : Link). IsEdgeNumber l.graph k.edge);
  each : AllByRecursion (λ (k : Link). IsEdgeNumber l.graph k.edge) l.link-iterator;
  len : vec_len l.mates ≡ vec_len l.fn.mates;
}
