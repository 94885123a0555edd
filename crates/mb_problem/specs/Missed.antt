-- The vertices that greatest matchings miss, and their neighbours, by the problem alone (Schrijver,
-- volume A, chapter 24).
use Rattle.std.specs.Prelude.{◌≡◌, ℕ, ◌≤◌, true, List, ◌↔◌}
use Rattle.graph_theory.specs.Graph.{degree}
use Rattle.graph_theory.specs.Parts.{holds}
use Rattle.gallai_theory.specs.Matchings.{IsBorder}
use Rattle.mb_problem.specs.declared.kind.Kind.TheVariants.{Gallai}
use Rattle.mb_problem.specs.declared.answer.Answer.TheVariants.{Counts}
use Rattle.mb_problem.specs.Network.{Network, vertices, graph_of}
use Rattle.mb_problem.specs.Feasible.{IsBest}

-- some greatest matching misses v
pub record IsMissedBySome (i : Network) (v : ℕ) : Type 0 where
  pub low : 1 ≤ v
  pub high : v ≤ vertices i
  pub counts : List ℕ
  pub greatest : IsBest Gallai i (Counts counts)
  pub missed : degree (graph_of i) counts v ≡ 0

-- exactly the vertices that some greatest matching misses
abbrev pub AreMissed : Network → List ℕ → Type 0
AreMissed i set = (v : ℕ) → (holds set v ≡ true) ↔ IsMissedBySome i v

-- exactly the vertices outside these with a neighbour among them
abbrev pub BorderMissed : Network → List ℕ → Type 0
BorderMissed i border = (set : List ℕ) × AreMissed i set × IsBorder (graph_of i) set border
