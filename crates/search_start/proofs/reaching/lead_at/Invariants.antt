use Rattle.alt_forest.proofs.Common.{◌≤ℤ◌, edge_of, other_end, slack_of, state_of}
use Rattle.search_start.specs.Sweeps.{IsReach, IsBehind}
use Rattle.search_start.proofs.LeastSeen.{HaveSeen}
use Rattle.search_start.proofs.reaching.lead_at.Given as goal

abbrev pub invariant-loop-place : goal.invariant-loop-place
invariant-loop-place g l = record {
  least : IsReach l.search.graph (slack_of (state_of l.search)) l.v l.lead.least;
  next : IsReach l.search.graph (slack_of (state_of l.search)) l.v l.lead.next;
  order : l.lead.least.by ≤ℤ l.lead.next.by;
  seen : HaveSeen (λ e. IsBehind l.lead (other_end (edge_of l.search.graph e) l.v) (slack_of (state_of l.search) e)) l.incidence l.place;
}
