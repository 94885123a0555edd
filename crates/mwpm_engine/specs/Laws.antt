-- What holds of the events between two augments, whatever their order (chapters 24 and 26).
use Rattle.std.specs.Prelude.{◌≡◌, ℕ, ◌+◌, ◌≤◌, ℤ, List, [], ◌∷◌, length}
use Rattle.blossom_arena.specs.Family.{IsNested}
use Rattle.alt_forest.specs.State.{State}
use Rattle.alt_forest.specs.Events.{CanExpand, CanGrow, CanShrink}
use Rattle.dual_change.specs.declared.event.Event.{Event}
use Rattle.dual_change.specs.declared.event.Event.TheVariants.{Grow, Shrink, Augment, Expand}
use Rattle.dual_change.specs.Changes.{applied}
use Rattle.tree_steps.specs.Expanded.{IsExpanded}
use Rattle.tree_steps.specs.Grown.{grown}
use Rattle.tree_steps.specs.Shrinkable.{IsShrunk}

-- an event that can happen in one state leaves the other; an augment isn't one of these
abbrev pub Follows : State → Event → State → Type 0
Follows s (Grow e) t = (can : CanGrow s e) × (mate : ℕ) × (t ≡ grown s e can.far mate)
Follows s (Shrink e) t = CanShrink s e × ((node : ℕ) × IsShrunk s t node)
Follows s (Expand b) t = CanExpand s b × IsExpanded s t b
Follows s (Augment e) t = ⊥

-- these events lead from the first state to the second, each after a change of the duals
abbrev pub Leads : List Event → State → State → Type 0
Leads [] s t = t ≡ s
Leads (event ∷ events) s t = (d : ℤ) × (u : State) × Follows (applied s d) event u
    × IsNested u.graph.vertices u.blossoms × Leads events u t

-- how many of these events are expands
abbrev pub expands : List Event → ℕ
expands [] = 0
expands (Grow e ∷ events) = expands events
expands (Shrink e ∷ events) = expands events
expands (Augment e ∷ events) = expands events
expands (Expand b ∷ events) = 1 + expands events

-- before the next augment no more blossoms are expanded than there are at first: one that is made
-- is outer, and stays so or inside an outer one
abbrev pub FewExpands : Type 0
FewExpands = (events : List Event) (s t : State) → IsNested s.graph.vertices s.blossoms
    → Leads events s t → expands events ≤ length s.blossoms
