use Rattle.alt_forest.proofs.Common.{◌≡◌, ◌+◌, length, edges_around, sum_to, IsSound, state_of}
use Rattle.search_start.specs.Starts.{IsLifted}
use Rattle.search_start.proofs.raising.lift_all.Given as goal

abbrev pub invariant-loop-place : goal.invariant-loop-place
invariant-loop-place g l = record {
  sound : IsSound l.search;
  lifted : IsLifted (state_of l.search) l.search.start l.place;
  frame : l.search ≡ record l.fn.search { arena = record l.fn.search.arena { duals = l.search.arena.duals } };
  inspections : l.steps ≡ l.fn.steps + sum_to (λ i. length (edges_around l.fn.search.graph (i + 1))) l.place;
}
