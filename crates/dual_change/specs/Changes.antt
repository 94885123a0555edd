-- A change of the duals along alternating trees, and what comes next (chapter 26): the duals of
-- outer nodes rise, those of inner nodes fall, until a tree can grow, a blossom can be shrunk or
-- expanded, or the matching augmented.
use Rattle.std.specs.Prelude.{◌≡◌, ◌≢◌, ℕ, ℤ, pos, ◌+ℤ◌, ◌≤ℤ◌, true, if◌then◌else◌}
use Rattle.graph_theory.specs.Graph.{IsEdgeNumber}
use Rattle.graph_theory.specs.Parts.{holds}
use Rattle.graph_theory.specs.Duals.{IsNumber}
pub use Rattle.blossom_arena.specs.Changes.{share}
use Rattle.blossom_arena.specs.Family.{names_of, is_outermost}
use Rattle.blossom_arena.specs.declared.label.Label.TheVariants.{Outer, Inner, Out}
use Rattle.alt_forest.specs.State.{State, IsOutermost, Joins, slack_of}
use Rattle.alt_forest.specs.Events.{CanGrow, CanAugment, CanShrink, CanExpand}
use Rattle.dual_change.specs.declared.event.Event.{Event}
use Rattle.dual_change.specs.declared.event.Event.TheVariants.{Grow, Shrink, Augment, Expand}
use Rattle.dual_change.specs.declared.event.Next.{Next}
use Rattle.dual_change.specs.declared.event.Next.TheVariants.{Grow as NextGrow}
use Rattle.dual_change.specs.declared.event.Next.TheVariants.{Shrink as NextShrink}
use Rattle.dual_change.specs.declared.event.Next.TheVariants.{Augment as NextAugment}
use Rattle.dual_change.specs.declared.event.Next.TheVariants.{Expand as NextExpand, Stuck}

-- what a change of d adds to the dual of a node: nothing inside a blossom
abbrev pub change : State → ℤ → ℕ → ℤ
change s d a = if is_outermost s.graph.vertices s.blossoms a then share d (s.label a) else pos 0

-- the state after a change of d
abbrev pub applied : State → ℤ → State
applied s d = record s { dual = λ a. s.dual a +ℤ change s d a }

-- A change of d is within the bounds: it is nonnegative, no slack becomes negative, and no inner
-- blossom's dual does.
pub record IsWithin (s : State) (d : ℤ) : Type 0 where
  pub low : pos 0 ≤ℤ d
  -- an edge from an outer node to one labelled out loses d
  pub to_out : (e a b : ℕ) → IsEdgeNumber s.graph e → Joins s.graph s.blossoms e a b
      → s.label a ≡ Outer → s.label b ≡ Out → d ≤ℤ slack_of s e
  -- an edge between two outer nodes loses d twice
  pub between : (e a b : ℕ) → IsEdgeNumber s.graph e → Joins s.graph s.blossoms e a b → a ≢ b
      → s.label a ≡ Outer → s.label b ≡ Outer → (d +ℤ d) ≤ℤ slack_of s e
  pub inner : (b : ℕ) → holds (names_of s.blossoms) b ≡ true → IsOutermost s b → s.label b ≡ Inner
      → d ≤ℤ s.dual b

-- each dual that a change of d makes lies in range
abbrev pub StaysInRange : State → ℤ → Type 0
StaysInRange s d = (a : ℕ) → IsOutermost s a → IsNumber ((applied s d).dual a)

-- an event can happen now
abbrev pub IsPossible : State → Event → Type 0
IsPossible s (Grow e) = CanGrow s e
IsPossible s (Shrink e) = CanShrink s e
IsPossible s (Augment e) = CanAugment s e
IsPossible s (Expand b) = CanExpand s b

-- a change of d makes this event possible, and no lesser change makes any event possible
pub record IsLeast (s : State) (d : ℤ) (event : Event) : Type 0 where
  pub low : pos 0 ≤ℤ d
  pub possible : IsPossible (applied s d) event
  pub least : (c : ℤ) (other : Event) → pos 0 ≤ℤ c → IsPossible (applied s c) other → d ≤ℤ c

-- no change makes any event possible
abbrev pub IsStuck : State → Type 0
IsStuck s = (c : ℤ) (event : Event) → pos 0 ≤ℤ c → IsPossible (applied s c) event → ⊥

-- what comes next, exactly
abbrev pub IsNext : State → Next → Type 0
IsNext s (NextGrow e d) = IsLeast s d (Grow e)
IsNext s (NextShrink e d) = IsLeast s d (Shrink e)
IsNext s (NextAugment e d) = IsLeast s d (Augment e)
IsNext s (NextExpand b d) = IsLeast s d (Expand b)
IsNext s Stuck = IsStuck s

-- the change that leads to what comes next is within the bounds
abbrev pub IsNextWithin : State → Next → Type 0
IsNextWithin s (NextGrow e d) = IsWithin s d
IsNextWithin s (NextShrink e d) = IsWithin s d
IsNextWithin s (NextAugment e d) = IsWithin s d
IsNextWithin s (NextExpand b d) = IsWithin s d
IsNextWithin s Stuck = Unit {0}

-- how many looks it takes to find what comes next where no entry is stale: one at the edge of an
-- event by an edge
abbrev pub edge_looks : Next → ℕ
edge_looks (NextGrow e d) = 1
edge_looks (NextShrink e d) = 1
edge_looks (NextAugment e d) = 1
edge_looks (NextExpand b d) = 0
edge_looks Stuck = 0
