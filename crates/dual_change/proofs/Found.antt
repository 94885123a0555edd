-- What comes at the least moment that is needed comes next.
use Rattle.alt_forest.proofs.Common.{◌≡◌, ◌≢◌, ℕ, ℤ, ◌+ℤ◌, ◌≤ℤ◌, true, Some, None, refl, sym, ◌∙◌, arith, ints, IsEdgeNumber, holds, names_of, Item}
use Rattle.alt_forest.proofs.Common.{moment_of, IsLeast as IsLeastMoment, Outer, Inner, IsOutermost, Joins, slack_of, IsSound, state_of, ForMoment, IsQueued, needs_also, nested_of}
use Rattle.alt_forest.specs.declared.search.Search.{Search}
use Rattle.search_heap.specs.declared.item.Item.TheVariants.{Edge, Blossom}
use Rattle.search_keys.specs.declared.bounds.EventBounds.{EventBounds}
use Rattle.search_keys.specs.Bounds.{IsBounding}
use Rattle.search_keys.proofs.Least.{least_edges, least_blossoms, none_edges, none_blossoms}
use Rattle.dual_change.specs.declared.event.Event.{Event}
use Rattle.dual_change.specs.declared.event.Event.TheVariants.{Grow, Shrink, Augment, Expand}
use Rattle.dual_change.specs.declared.event.Next.{Next}
use Rattle.dual_change.specs.declared.event.Next.TheVariants.{Grow as NextGrow, Shrink as NextShrink, Augment as NextAugment, Expand as NextExpand, Stuck}
use Rattle.dual_change.specs.Changes.{IsNext, IsNextWithin, IsLeast, IsWithin, IsStuck}
use Rattle.dual_change.specs.Candidates.{ComesAt, IsCandidate, Leads}
use Rattle.dual_change.proofs.Least.{outer_slack_even, is_least, none_stuck}

-- what holds of each moment that an edge or an inner blossom needs
pub record AllMoments (s : Search) (Holds : ℤ → Type 0) : Type 0 where
  pub edges : (e : ℕ) → IsEdgeNumber s.graph e → ForMoment (state_of s) s.clock e Holds
  pub blossoms : (b : ℕ) → holds (names_of s.arena.blossoms) b ≡ true → IsOutermost (state_of s) b → (state_of s).label b ≡ Inner → Holds (s.clock +ℤ (state_of s).dual b)

-- none of them is before m
abbrev pub NoneBefore : Search → ℤ → Type 0
NoneBefore s m = AllMoments s (λ x. m ≤ℤ x)

-- there is none
abbrev pub NoneNeeded : Search → Type 0
NoneNeeded s = AllMoments s (λ x. ⊥)

sooner : (clock d m x : ℤ) → m ≡ clock +ℤ d → m ≤ℤ (clock +ℤ x) → d ≤ℤ x
sooner clock d m x is least = omega (arith, ints)

module _ (s : Search) (sound : IsSound s) where
  even : (e a b : ℕ) → IsEdgeNumber s.graph e → Joins s.graph s.arena.blossoms e a b → (state_of s).label a ≡ Outer → (state_of s).label b ≡ Outer
      → (half : ℤ) × (slack_of (state_of s) e ≡ half +ℤ half)
  even e a b = outer_slack_even (state_of s) sound.depth e a b sound.shape.graph.graph (nested_of s sound.shape) sound.state

  -- what comes at m, before which no moment is needed, is next, and within the bounds
  comes_first : (m d : ℤ) (event : Event) → m ≡ s.clock +ℤ d → Leads (state_of s) d event → NoneBefore s m → IsLeast (state_of s) d event × IsWithin (state_of s) d
  comes_first m d event at can none =
      let within : IsWithin (state_of s) d = record {
        low = can.low;
        to_out = λ e a b is j la lb. sooner s.clock d m _ at ((none.edges e is).to_out a b j la lb);
        between = λ e a b is j ne la lb.
            let half = even e a b is j la lb in
            let by : d ≤ℤ half.0 = sooner s.clock d m _ at ((none.edges e is).between a b half.0 j ne la lb half.1) in
            omega (arith, ints, by, half.1);
        inner = λ b name is lab. sooner s.clock d m _ at (none.blossoms b name is lab);
      } in (is_least (state_of s) sound.depth sound.shape.graph.graph (nested_of s sound.shape) d event within can.possible, within)

  pub first_next : (m : ℤ) (next : Next) → IsCandidate (state_of s) next → ComesAt s.clock m next → next ≢ Stuck → NoneBefore s m
      → IsNext (state_of s) next × IsNextWithin (state_of s) next
  first_next m (NextGrow e d) can at there none = comes_first m d (Grow e) at can none
  first_next m (NextShrink e d) can at there none = comes_first m d (Shrink e) at can none
  first_next m (NextAugment e d) can at there none = comes_first m d (Augment e) at can none
  first_next m (NextExpand b d) can at there none = comes_first m d (Expand b) at can none
  first_next m Stuck can at there none = absurd (there refl)

  -- where nothing is needed nothing comes
  pub stuck_next : NoneNeeded s → IsStuck (state_of s)
  stuck_next none = none_stuck (state_of s) sound.depth sound.shape.graph.graph (nested_of s sound.shape) (record {
    to_out = λ e a b is j la lb. (none.edges e is).to_out a b j la lb;
    between = λ e a b is j ne la lb. let half = even e a b is j la lb in (none.edges e is).between a b half.0 j ne la lb half.1;
    inner = none.blossoms;
  })

-- what the least moment of the search's own queue says of all
pub least_before : (s : Search) (at : Item) (m : ℤ) → IsQueued s → IsLeastMoment s.queue (Some (at, m)) → NoneBefore s m
least_before s at m h least = record {
  edges = λ e is. needs_also (state_of s) s.clock e (λ x. moment_of s.queue (Edge e) ≡ Some x) (λ x. m ≤ℤ x) (least.1 (Edge e)) (h.edges e is);
  blossoms = λ b name is lab. least.1 (Blossom b) _ (h.blossoms b name is lab);
}

pub none_needed : (s : Search) → IsQueued s → IsLeastMoment s.queue None → NoneNeeded s
none_needed s h none = record {
  edges = λ e is. needs_also (state_of s) s.clock e (λ x. moment_of s.queue (Edge e) ≡ Some x) (λ x. ⊥) (no (Edge e)) (h.edges e is);
  blossoms = λ b name is lab. no (Blossom b) _ (h.blossoms b name is lab);
}
  where
    no : (item : Item) (x : ℤ) → moment_of s.queue item ≡ Some x → ⊥
    no item x has = let both : None ≡ Some x = sym (none item) ∙ has in absurd (cc)

-- and what the least of the moments that are kept for nodes says
pub bound_before : (s : Search) (b : EventBounds) (at : Item) (m : ℤ) → IsSound s → IsBounding s b → IsLeastMoment b.moments (Some (at, m)) → NoneBefore s m
bound_before s b at m sound h least = record { edges = least_edges s b sound h at m least; blossoms = least_blossoms s b sound h at m least }

pub none_bound : (s : Search) (b : EventBounds) → IsSound s → IsBounding s b → IsLeastMoment b.moments None → NoneNeeded s
none_bound s b sound h none = record { edges = none_edges s b sound h none; blossoms = none_blossoms s b sound h none }
