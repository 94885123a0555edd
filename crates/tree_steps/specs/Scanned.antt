-- Whose edges are looked at after a step (chapter 24).
use Rattle.std.specs.Prelude.{ℕ, if◌then◌else◌, List, [], ◌∷◌, ◌++◌}
use Rattle.blossom_arena.specs.declared.links.Link.{Link}
use Rattle.blossom_arena.specs.Family.{members_of}
use Rattle.blossom_arena.specs.declared.label.Label.TheVariants.{Outer}
use Rattle.alt_forest.specs.State.{State}
use Rattle.alt_forest.specs.Trees.{is_label}

-- the vertices of a node that is not outer; of an outer one none
abbrev pub unless_outer : State → ℕ → List ℕ
unless_outer s a = if is_label (s.label a) Outer then [] else members_of s.blossoms a

-- the vertices of the nodes of a circuit that are not outer
abbrev pub newly_outer : State → List Link → List ℕ
newly_outer s [] = []
newly_outer s (l ∷ ring) = unless_outer s l.node ++ newly_outer s ring
