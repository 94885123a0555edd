-- The theorems on greatest matchings, as facts about all graphs.
use Rattle.std.specs.Prelude.{◌≡◌, ℕ, ◌+◌, ◌*◌, ◌%◌, ◌≤◌, false, ◌↔◌, List, length}
use Rattle.graph_theory.specs.Graph.{Multigraph, IsGraph, degree}
use Rattle.graph_theory.specs.Parts.{holds, IsVertexSet}
use Rattle.graph_theory.specs.Barrier.{IsComponent, IsOddCount}
use Rattle.gallai_theory.specs.Matchings.{edges_used, IsMatched, IsGreatest, IsOuterSet}
use Rattle.gallai_theory.specs.Decomposition.{HaveEvenPaths, IsDecomposed, without_loops}
use Rattle.gallai_theory.specs.Decomposition.{unweighted}

-- the easy direction of Berge's formula: no more components have odd size than a matching misses
-- vertices and the removed set has members
abbrev pub OddCountIsBounded : Type 0
OddCountIsBounded = (g : Multigraph) (removed counts : List ℕ) (n : ℕ) → IsGraph g
    → IsOddCount g removed n → IsMatched g counts
    → n + 2 * edges_used g counts ≤ g.vertices + length removed

-- and one less where some missed vertex lies in none of them
abbrev pub MissedLieInOdd : Type 0
MissedLieInOdd = (g : Multigraph) (removed counts : List ℕ) (n v : ℕ) → IsGraph g
    → IsOddCount g removed n → IsMatched g counts → 1 ≤ v → v ≤ g.vertices → degree g counts v ≡ 0
    → ((component : List ℕ) → IsComponent g removed component → length component % 2 ≡ 1
    → holds component v ≡ false) → n + 1 + 2 * edges_used g counts ≤ g.vertices + length removed

-- Even paths and the count of odd components prove a matching greatest, and a set the one of all
-- vertices that greatest matchings miss.
abbrev pub PathsDecompose : Type 0
PathsDecompose = (g : Multigraph) (counts set border : List ℕ) → IsGraph g → IsMatched g counts
    → IsVertexSet g.vertices set → HaveEvenPaths g counts set
    → IsDecomposed g (edges_used g counts) set border → IsGreatest g counts × IsOuterSet g set

-- neither loops nor weights matter to borders and components
abbrev pub LoopsMatterNot : Type 0
LoopsMatterNot = (g : Multigraph) (size : ℕ) (set border : List ℕ) → IsGraph g
    → IsDecomposed g size set border ↔ IsDecomposed (unweighted (without_loops g)) size set border
