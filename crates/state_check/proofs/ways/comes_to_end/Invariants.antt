use Rattle.alt_forest.proofs.Common.{◌≢◌, IsOutermost, state_of}
use Rattle.state_check.proofs.Checked.{HasClimbed}
use Rattle.state_check.proofs.ways.comes_to_end.Given as goal

abbrev pub invariant-loop : goal.invariant-loop
invariant-loop l = record {
  outermost : l.node ≢ 0 → IsOutermost (state_of l.search) l.node;
  climbed : HasClimbed (state_of l.search) l.fn.a l.counter l.node;
}
