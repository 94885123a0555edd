-- What `find` keeps while it looks. Only clauses of private calls cite this module.
use Rattle.std.specs.Prelude.{◌≡◌, ◌≢◌, ℕ, ◌+◌, ℤ, pos, ◌+ℤ◌, ◌≤ℤ◌, true, None}
use Rattle.blossom_arena.specs.declared.label.Label.TheVariants.{Inner}
use Rattle.graph_theory.specs.Graph.{IsEdgeNumber}
use Rattle.graph_theory.specs.Parts.{holds}
use Rattle.blossom_arena.specs.Family.{names_of}
use Rattle.search_heap.specs.declared.item.Item.{Item}
use Rattle.search_heap.specs.declared.item.Item.TheVariants.{Edge as OfEdge, Blossom as OfBlossom}
use Rattle.search_heap.specs.Moments.{Moments}
use Rattle.alt_forest.specs.declared.search.Search.{Search}
use Rattle.alt_forest.specs.Searches.{state_of}
use Rattle.alt_forest.specs.Entries.{NeedsMoment, entered_among}
use Rattle.alt_forest.specs.State.{State, IsOutermost, Joins}
use Rattle.dual_change.specs.declared.event.Event.{Event}
use Rattle.dual_change.specs.declared.event.Event.TheVariants.{Grow, Shrink, Augment, Expand}
use Rattle.dual_change.specs.declared.event.Next.{Next}
use Rattle.dual_change.specs.declared.event.Next.TheVariants.{Grow as NextGrow}
use Rattle.dual_change.specs.declared.event.Next.TheVariants.{Shrink as NextShrink}
use Rattle.dual_change.specs.declared.event.Next.TheVariants.{Augment as NextAugment}
use Rattle.dual_change.specs.declared.event.Next.TheVariants.{Expand as NextExpand, Stuck}
use Rattle.dual_change.specs.Changes.{applied, IsPossible}

-- the outermost nodes that hold the two ends of an edge
pub record IsEdgeBetween (s : Search) (e one other : ℕ) : Type 0 where
  pub number : IsEdgeNumber s.graph e
  pub joins : Joins s.graph s.arena.blossoms e one other
  pub one_is : IsOutermost (state_of s) one
  pub other_is : IsOutermost (state_of s) other

-- where a node is an inner blossom, its dual comes to 0 at this moment
abbrev pub IsDue : State → ℤ → ℕ → ℤ → Type 0
IsDue s clock b moment = holds (names_of s.blossoms) b ≡ true → IsOutermost s b → s.label b ≡ Inner
    → moment ≡ clock +ℤ s.dual b

-- what comes does so when the clock has reached this moment
abbrev pub ComesAt : ℤ → ℤ → Next → Type 0
ComesAt clock moment (NextGrow e d) = moment ≡ clock +ℤ d
ComesAt clock moment (NextShrink e d) = moment ≡ clock +ℤ d
ComesAt clock moment (NextAugment e d) = moment ≡ clock +ℤ d
ComesAt clock moment (NextExpand b d) = moment ≡ clock +ℤ d
ComesAt clock moment Stuck = Unit {0}

-- an edge that needs no moment, or a node that isn't an inner blossom
abbrev pub IsStale : State → ℤ → Item → Type 0
IsStale s clock (OfEdge e) = NeedsMoment s clock e None
IsStale s clock (OfBlossom b) = holds (names_of s.blossoms) b ≡ true → IsOutermost s b
    → s.label b ≢ Inner

-- how many looks an item takes
abbrev pub item_looks : Item → ℕ
item_looks (OfEdge e) = 1
item_looks (OfBlossom b) = 0

-- how many items have a moment
abbrev pub entries_left : Moments → ℕ
entries_left q = entered_among q.edges + entered_among q.blossoms

-- a nonnegative change of d makes an event possible
pub record Leads (s : State) (d : ℤ) (event : Event) : Type 0 where
  pub low : pos 0 ≤ℤ d
  pub possible : IsPossible (applied s d) event

-- what comes is possible when it comes
abbrev pub IsCandidate : State → Next → Type 0
IsCandidate s (NextGrow e d) = Leads s d (Grow e)
IsCandidate s (NextShrink e d) = Leads s d (Shrink e)
IsCandidate s (NextAugment e d) = Leads s d (Augment e)
IsCandidate s (NextExpand b d) = Leads s d (Expand b)
IsCandidate s Stuck = Unit {0}
