use Rattle.alt_forest.proofs.Common.{◌≡◌, ◌↔◌, true, drop, AllByRecursion, Link, in_ring, ring_of, older_than, IsChainTo, IsTight, state_of}
use Rattle.state_check.specs.Checks.{RingHolds}
use Rattle.state_check.proofs.rings.ring_holds.Given as goal

abbrev pub invariant-loop-link : goal.invariant-loop-link
invariant-loop-link l = record {
  following : l.following ≡ drop 1 l.link-iterator;
  inside : AllByRecursion (λ (k : Link). in_ring (ring_of l.search.arena.blossoms l.fn.b) k.node ≡ true) l.link-iterator;
  first_inside : in_ring (ring_of l.search.arena.blossoms l.fn.b) l.first ≡ true;
  rest : RingHolds (state_of l.search) l.fn.b ↔ (IsChainTo l.search.graph (older_than l.search.arena.blossoms l.fn.b) l.link-iterator l.first × AllByRecursion
      (λ (k : Link). IsTight (state_of l.search) k.edge) l.link-iterator);
}
