-- What finds paths and tests them. No public clause cites this module.
use Rattle.std.specs.Prelude.{◌≡◌, ℕ, List, length}
use Rattle.mb_problem.specs.Degrees.{AreDegrees}
use Rattle.mb_problem.specs.Network.{Network}
use Rattle.gallai.specs.declared.finding.Finder.{Finder}

-- what tests paths along a matching with these counts
pub record Finds (i : Network) (counts : List ℕ) (finder : Finder) : Type 0 where
  pub counts_are : finder.counts.items ≡ counts
  pub one_each : length counts ≡ length i.edges
  pub degrees : AreDegrees i finder.counts.items finder.degrees.items
