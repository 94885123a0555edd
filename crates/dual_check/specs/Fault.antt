-- When a fault is the first of duals: the sets come before the slacks. Sets and edges count from 1.
use Rattle.std.specs.Prelude.{ℕ, ◌-◌, ◌<◌, ◌≤◌, ℤ, pos, ◌≤ℤ◌, ◌<ℤ◌, List, length}
use Rattle.graph_theory.specs.declared.odd_set.OddSet.{OddSet}
use Rattle.graph_theory.specs.Graph.{Multigraph, IsEdgeNumber, edge_of}
use Rattle.graph_theory.specs.Duals.{slack}
use Rattle.graph_theory.specs.OddSets.{HasItemForm, HaveItemForm, listed_sets}
use Rattle.dual_check.specs.declared.fault.DualFault.{DualFault}
use Rattle.dual_check.specs.declared.fault.DualFault.TheVariants.{SetForm, Slack, OutOfMemory}

-- the set of this number lacks form, and none before it does
pub record IsFirstSetFault (sets : List OddSet) (number : ℕ) : Type 0 where
  pub low : 1 ≤ number
  pub high : number ≤ length sets
  pub lacks : ¬ HasItemForm sets (number - 1)
  pub before : (j : ℕ) → 1 ≤ j → j < number → HasItemForm sets (j - 1)

-- all sets have form, the slack of edge e is negative, and that of no edge before it is
pub record IsFirstSlackFault (g : Multigraph) (y : List ℤ) (sets : List OddSet)
    (e : ℕ) : Type 0 where
  pub forms : HaveItemForm sets
  pub number : IsEdgeNumber g e
  pub below : slack y (listed_sets g.vertices sets) (edge_of g e) <ℤ pos 0
  pub before : (f : ℕ) → 1 ≤ f → f < e
      → pos 0 ≤ℤ slack y (listed_sets g.vertices sets) (edge_of g f)

abbrev pub IsFirstDualFault : Multigraph → List ℤ → List OddSet → DualFault → Type 0
IsFirstDualFault g y sets (SetForm number) = IsFirstSetFault sets number
IsFirstDualFault g y sets (Slack e) = IsFirstSlackFault g y sets e
IsFirstDualFault g y sets OutOfMemory = Unit {0}
