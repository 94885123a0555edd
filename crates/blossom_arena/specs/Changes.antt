-- A change of the duals of outermost nodes (chapter 26): those that move as outer nodes rise, those
-- that move as inner nodes fall, and all others stay.
use Rattle.std.specs.Prelude.{ℕ, ℤ, pos, ◌-ℤ◌, if◌then◌else◌}
use Rattle.blossom_arena.specs.declared.label.Label.{Label}
use Rattle.blossom_arena.specs.declared.label.Label.TheVariants.{Outer, Inner, Out}
pub use Rattle.blossom_arena.specs.Family.{label_at}
use Rattle.blossom_arena.specs.Family.{Family, is_outermost}

-- what a change of d adds to the dual of an outermost node
abbrev pub share : ℤ → Label → ℤ
share d Outer = d
share d Inner = pos 0 -ℤ d
share d Out = pos 0

-- what it adds to the dual of a node, as the node moves: nothing inside a blossom
abbrev pub gain : Family → ℤ → ℕ → ℤ
gain f d a = if is_outermost f.vertex_count f.blossoms a then share d (label_at f.motions a)
    else pos 0
