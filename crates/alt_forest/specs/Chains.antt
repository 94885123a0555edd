-- The nodes that hold the ends of an edge. Only clauses of private calls cite what stands here, but
-- for `weighed`.
use Rattle.std.specs.Prelude.{ℕ, suc, ℤ, pos, not, ◌&&◌, ◌==◌, if◌then◌else◌, List, [], ◌∷◌}
use Rattle.std.specs.Prelude.{◌++◌, Option, Some, None}
use Rattle.graph_theory.specs.Parts.{holds}
use Rattle.blossom_arena.specs.Family.{Blossom}
pub use Rattle.blossom_arena.specs.Slack.{total_of}
use Rattle.graph_theory.specs.declared.edge.Edge.{Edge}
use Rattle.alt_forest.specs.declared.weights.Weights.{Weights}
use Rattle.alt_forest.specs.declared.weights.Weights.TheVariants.{Zero, Given}

-- the edge as a pass weighs it
abbrev pub weighed : Weights → Edge → Edge
weighed Zero e = record e { w = pos 0 }
weighed Given e = e

-- the nodes that hold u and not v, innermost first, for two different vertices
abbrev pub holders : List Blossom → ℕ → ℕ → List ℕ
holders [] u v = u ∷ []
holders (b ∷ older) u v = if holds b.members u && not (holds b.members v)
    then holders older u v ++ b.node ∷ [] else holders older u v

-- how many places come before the first one where two lists have the same
abbrev pub apart : List ℕ → List ℕ → ℕ
apart [] ys = 0
apart (x ∷ xs) [] = 0
apart (x ∷ xs) (y ∷ ys) = if x == y then 0 else suc (apart xs ys)

-- the dual of a node, if there is one
abbrev pub dual_of : (ℕ → ℤ) → Option ℕ → ℤ
dual_of y None = pos 0
dual_of y (Some a) = y a
