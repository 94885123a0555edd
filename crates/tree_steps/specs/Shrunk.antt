-- What a shrink changes (chapter 24).
use Rattle.std.specs.Prelude.{ℕ, pos, ◌∷◌}
use Rattle.blossom_arena.specs.Family.{Blossom}
use Rattle.blossom_arena.specs.declared.label.Label.TheVariants.{Outer}
use Rattle.alt_forest.specs.State.{State}
use Rattle.alt_forest.specs.Searches.{put}

-- a blossom more, of dual 0: an outer node that has the mate of the node where the two ways of its
-- circuit meet
abbrev pub shrunk_state : State → Blossom → ℕ → State
shrunk_state s b base = record s {
  blossoms = b ∷ s.blossoms;
  dual = put s.dual b.node (pos 0);
  label = put s.label b.node Outer;
  mate = put s.mate b.node (s.mate base);
}
