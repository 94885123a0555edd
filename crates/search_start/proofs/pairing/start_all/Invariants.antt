use Rattle.alt_forest.proofs.Common.{◌≡◌, ℕ, ◌+◌, ◌≤◌, length, edges_around, sum_to, exposed_count, IsSound, state_of}
use Rattle.search_start.specs.Starts.{IsBegun}
use Rattle.search_start.specs.Sweeps.{IsFirstExposed}
use Rattle.search_start.proofs.FirstTurns.{HasTurn}
use Rattle.search_start.proofs.Settled.{AreSettled}
use Rattle.search_start.proofs.pairing.start_all.Given as goal

abbrev pub invariant-loop-place : goal.invariant-loop-place
invariant-loop-place g l = record {
  sound : IsSound l.search;
  started : IsBegun (state_of l.search) l.search.start;
  frame : l.search ≡ record l.fn.search { arena = record l.fn.search.arena { duals = l.search.arena.duals }; mates = l.search.mates };
  settled : AreSettled l.fn.search.graph (state_of l.search) l.place;
  exposed : exposed_count (state_of l.search) ≤ exposed_count (state_of l.fn.search);
  inspections : l.steps ≤ l.fn.steps + sum_to (λ i. length (edges_around l.fn.search.graph (i + 1))) l.place;
  grows : l.fn.steps ≤ l.steps;
  turn : (v : ℕ) → IsFirstExposed (state_of l.fn.search) v → HasTurn l.fn.search l.search l.fn.steps l.steps l.place v;
}
