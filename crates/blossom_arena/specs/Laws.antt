-- What holds of the sets and duals of every family (chapters 24, 25 and 26).
use Rattle.std.specs.Prelude.{◌≡◌, ℕ, pos, ◌-ℤ◌, ◌*ℤ◌, true, List}
use Rattle.std.specs.List.Sorted.{IsStrictlyIncreasing}
use Rattle.graph_theory.specs.declared.edge.Edge.{Edge}
use Rattle.graph_theory.specs.Graph.{IsEdgeWithin}
use Rattle.graph_theory.specs.Parts.{holds, IsVertexSet}
use Rattle.graph_theory.specs.Duals.{DualSet, HasForm, slack}
use Rattle.graph_theory.specs.Nested.{AreLaminar, AreSame}
use Rattle.blossom_arena.specs.Family.{Family, IsFamily, IsOddSet, names_of, is_node, members_of}
use Rattle.blossom_arena.specs.Family.{dual_at}
use Rattle.blossom_arena.specs.Slack.{AreListed, duals_across, vertex_duals, sets_of}

-- the vertices of a blossom are an odd number of at least three different ones
abbrev pub SetsAreOdd : Type 0
SetsAreOdd = (f : Family) (b : ℕ) → IsFamily f → holds (names_of f.blossoms) b ≡ true
    → IsOddSet f.vertex_count (members_of f.blossoms b)

-- in ascending order they are what a certificate may list as a set
abbrev pub SetsHaveForm : Type 0
SetsHaveForm = (f : Family) (b : ℕ) (set : List ℕ) → IsFamily f
    → holds (names_of f.blossoms) b ≡ true → IsStrictlyIncreasing set
    → AreSame set (members_of f.blossoms b)
    → HasForm set × IsVertexSet f.vertex_count set

-- of any two nodes one holds the other, or they have no vertex in common
abbrev pub SetsAreLaminar : Type 0
SetsAreLaminar = (f : Family) (a b : ℕ) → IsFamily f → is_node f.vertex_count f.blossoms a ≡ true
    → is_node f.vertex_count f.blossoms b ≡ true
    → AreLaminar (members_of f.blossoms a) (members_of f.blossoms b)

-- two nodes of the same vertices are one node
abbrev pub SetsDiffer : Type 0
SetsDiffer = (f : Family) (a b : ℕ) → IsFamily f → is_node f.vertex_count f.blossoms a ≡ true
    → is_node f.vertex_count f.blossoms b ≡ true
    → AreSame (members_of f.blossoms a) (members_of f.blossoms b) → a ≡ b

-- the slack of an edge by the duals of all vertices and all sets is twice its weight, without the
-- duals of the nodes that hold exactly one end
abbrev pub SlackByNodes : Type 0
SlackByNodes = (f : Family) (e : Edge) → IsEdgeWithin f.vertex_count e
    → slack (vertex_duals f.vertex_count f.duals) (sets_of f.duals f.blossoms) e
    ≡ (pos 2 *ℤ e.w) -ℤ duals_across (dual_at f.duals) f.blossoms e

-- and so it is where a certificate lists the sets with a dual other than 0 alone
abbrev pub ListedSlackByNodes : Type 0
ListedSlackByNodes = (f : Family) (sets : List DualSet) (e : Edge) → IsEdgeWithin f.vertex_count e
    → AreListed f.duals f.blossoms sets
    → slack (vertex_duals f.vertex_count f.duals) sets e
    ≡ (pos 2 *ℤ e.w) -ℤ duals_across (dual_at f.duals) f.blossoms e
