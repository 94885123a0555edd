use Rattle.alt_forest.proofs.Common.{state_of}
use Rattle.search_start.specs.Starts.{IsAbove, IsRise}
use Rattle.search_start.proofs.LeastSeen.{HaveSeen}
use Rattle.search_start.proofs.pairing.least_rise.Given as goal

abbrev pub invariant-loop-place : goal.invariant-loop-place
invariant-loop-place g l = record {
  rise : IsRise (state_of l.search) l.v l.least.by l.least.mate;
  seen : HaveSeen (IsAbove (state_of l.search) l.v l.least.by l.least.mate) l.incidence l.place;
}
