-- What a step of the search changes (chapter 24).
use Rattle.std.specs.Prelude.{ℕ, Some}
use Rattle.blossom_arena.specs.declared.label.Label.TheVariants.{Outer, Inner}
use Rattle.alt_forest.specs.State.{State}
use Rattle.alt_forest.specs.Searches.{put}

-- a node and its mate come into a tree by an edge: the node is inner and hangs by the edge, its
-- mate is outer
abbrev pub grown : State → ℕ → ℕ → ℕ → State
grown s e far mate = record s
    { label = put (put s.label far Inner) mate Outer; parent = put s.parent far (Some e) }
