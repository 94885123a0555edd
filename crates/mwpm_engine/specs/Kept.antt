-- How an engine keeps its solution. No public clause cites this module.
use Rattle.std.specs.Prelude.{◌≡◌, ◌≤◌, true, vec_len, Some}
use Rattle.std.specs.List.{AllByRecursion}
use Rattle.std.specs.Vec.{vec_capacity}
use Rattle.graph_theory.specs.Nested.{most_blossoms}
use Rattle.blossom_arena.specs.Family.{is_node}
use Rattle.alt_forest.specs.Searches.{HasShape}
use Rattle.search_keys.specs.Bounds.{HasPlaces}
use Rattle.mwpm_engine.specs.declared.engine.Engine.TheInside.{Inside}
use Rattle.mwpm_engine.specs.declared.outcome.Outcome.TheVariants.{Barrier}
use Rattle.mwpm_engine.specs.Passes.{IsParted}
use Rattle.mwpm_engine.specs.Solutions.{Solution}
use Rattle.mwpm_engine.specs.Solving.{solution_of}

-- what contracts see of it
abbrev pub seen : Inside → Solution
seen a = solution_of a.search a.outcome a.sets.items

-- The search has its shape, the bounds have their places, and the listed sets are nodes, no more
-- than blossoms can be, for which there is room. After a run that found no perfect matching the
-- forest is stuck, and its blossoms have been opened.
pub record IsKept (a : Inside) : Type 0 where
  pub shape : HasShape a.search
  pub places : HasPlaces a.search.graph a.bounds
  pub nodes : AllByRecursion (λ b. is_node a.search.graph.vertices a.search.arena.blossoms b ≡ true)
      a.sets.items
  pub size_limit : vec_len a.sets ≤ most_blossoms a.search.graph.vertices
  pub room : most_blossoms a.search.graph.vertices ≤ vec_capacity a.sets
  pub parted : a.outcome ≡ Some Barrier → IsParted a.search
