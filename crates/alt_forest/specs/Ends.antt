-- What is at hand of a vertex while the edges at it are looked at. Only clauses of private calls
-- cite what stands here.
use Rattle.std.specs.Prelude.{◌≡◌, true}
use Rattle.blossom_arena.specs.Family.{is_vertex, outermost}
use Rattle.blossom_arena.specs.Slack.{IsDualSum}
use Rattle.alt_forest.specs.declared.entries.Near.{Near}
use Rattle.alt_forest.specs.State.{State, dual_sum}

-- what is at hand of a vertex is what holds in the state
pub record IsNear (s : State) (near : Near) : Type 0 where
  pub vertex : is_vertex s.graph.vertices near.vertex ≡ true
  pub node : near.node ≡ outermost s.blossoms near.vertex
  pub label : near.label ≡ s.label near.node
  pub dual_sum : near.dual_sum ≡ dual_sum s near.vertex
  pub in_range : IsDualSum near.dual_sum
