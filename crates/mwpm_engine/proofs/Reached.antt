-- What comes next while a forest grows: the duals and the clock change within their bounds, and all trees stay.
use Rattle.alt_forest.proofs.Common.{◌≡◌, ◌∙◌, ◌+◌, ℤ, ◌+ℤ◌, ◌≤ℤ◌, Option, Some, None, refl, sym, ap, subst, ⊎_elim, inl, inr, NUMBER_LIMIT, State, IsSound}
use Rattle.alt_forest.proofs.Common.{state_of, exposed_count, measure, tree_count, IsPlanted, HasNoTree, looks_left, HasTreeNodes, nested_of, roots_counted, outer_not_out}
use Rattle.alt_forest.specs.declared.search.Search.{Search}
use Rattle.dual_change.specs.declared.event.Event.{Event}
use Rattle.dual_change.specs.declared.event.Next.{Next}
use Rattle.dual_change.specs.declared.event.Next.TheVariants.{Grow as NextGrow, Shrink as NextShrink, Augment as NextAugment, Expand as NextExpand, Stuck}
use Rattle.dual_change.specs.Changes.{applied, IsWithin, IsPossible, IsLeast, IsStuck, IsNext, IsNextWithin, StaysInRange, edge_looks}
use Rattle.dual_change.proofs.Applied.{applied_state}
use Rattle.search_start.specs.Bounds.{IsBounded}
use Rattle.mwpm_engine.proofs.BoundedRaised.{raised_in_range}
use Rattle.mwpm_engine.proofs.BoundedZero.{no_duals_in_range}
use Rattle.mwpm_engine.proofs.Timed.{timed_applied, clock_fits}
use Rattle.mwpm_engine.specs.Passes.{IsTimed, IsForest, HasStuckForest, KeepsCounts, event_of, steps_to}

-- an event that the least change leads to, within the bounds, or none where the search is stuck
abbrev Comes : State → Option (Event × ℤ) → Type 0
Comes s None = IsStuck s
Comes s (Some p) = IsLeast s p.1 p.0 × IsWithin s p.1

comes : (s : State) (next : Next) → IsNext s next → IsNextWithin s next → Comes s (event_of next)
comes s (NextGrow e d) found within = (found, within)
comes s (NextShrink e d) found within = (found, within)
comes s (NextAugment e d) found within = (found, within)
comes s (NextExpand b d) found within = (found, within)
comes s Stuck found within = found

-- the look at an event's edge, and the change of duals
abbrev LooksThen : Next → Option (Event × ℤ) → Type 0
LooksThen next None = edge_looks next ≡ 0
LooksThen next (Some p) = edge_looks next + 1 ≡ steps_to p.0

looks_then : (next : Next) → LooksThen next (event_of next)
looks_then (NextGrow e d) = refl
looks_then (NextShrink e d) = refl
looks_then (NextAugment e d) = refl
looks_then (NextExpand b d) = refl
looks_then Stuck = refl

pub looks_reach : (next : Next) (event : Event) (d : ℤ) → event_of next ≡ Some (event, d) → edge_looks next + 1 ≡ steps_to event
looks_reach next event d same = subst (LooksThen next) same (looks_then next)

pub looks_none : (next : Next) → event_of next ≡ None → edge_looks next ≡ 0
looks_none next same = subst (LooksThen next) same (looks_then next)

-- where no event comes no change makes any possible
pub stuck_none : (s : State) (next : Next) → IsNext s next → IsNextWithin s next → event_of next ≡ None → IsStuck s
stuck_none s next is within same = subst (Comes s) same (comes s next is within)

-- where there is a tree by count some tree stands
pub some_tree : (s : Search) → IsForest s → HasNoTree (state_of s) → ⊥
some_tree s h none = let r = roots_counted (state_of s) h.trees in outer_not_out (sym r.1.outer ∙ none r.0 r.1.outermost)

-- a search whose queue has lost entries grows on
pub forest_found : (s u : Search) → u ≡ record s { queue = u.queue } → IsSound u → HasTreeNodes u → IsForest s → IsForest u
forest_found s u rest sound tree_nodes h = subst IsForest (sym rest) (record {
  sound = subst IsSound rest sound;
  listed = subst HasTreeNodes rest tree_nodes;
  all_rooted = h.all_rooted;
  trees = h.trees;
  bounded = h.bounded;
  timed = h.timed;
})

-- what a change that leads to an event leaves
pub record Stays (s : State) (start clock d : ℤ) : Type 0 where
  pub in_range : StaysInRange s d
  pub bounded : IsBounded (applied s d) start
  pub timed : IsTimed (applied s d) start (clock +ℤ d)
  pub clock_fits : (clock +ℤ d) ≤ℤ NUMBER_LIMIT

-- a change that leads to an event keeps the duals and the clock in range and bounded
stays : (s : Search) (d : ℤ) (event : Event) → IsForest s → IsWithin (state_of s) d → IsPossible (applied (state_of s) d) event → Stays (state_of s) s.start s.clock d
stays s d event h within can =
    let graph = h.sound.shape.graph in let nested = nested_of s h.sound.shape in
    let range : StaysInRange (state_of s) d × IsBounded (applied (state_of s) d) s.start = ⊎_elim
    (λ z. let r = no_duals_in_range (state_of s) graph.graph z d event within can in (r.0, inl r.1))
    (λ z.
    let r = raised_in_range (state_of s) s.start h.sound.depth d graph.graph graph.loopless graph.limits.vertices nested h.sound.state h.all_rooted h.trees within z in
    (r.0, inr r.1))
    h.bounded in
    let timed = timed_applied (state_of s) s.start s.clock d h.sound.depth event graph.graph nested h.sound.state h.trees h.bounded within can h.timed in
    record {
      in_range = range.0;
      bounded = range.1;
      timed = timed;
      clock_fits = clock_fits (applied (state_of s) d) s.start (s.clock +ℤ d) h.sound.depth graph.graph graph.limits.vertices nested
          (applied_state (state_of s) d graph.graph nested h.sound.depth h.sound.state graph.loopless h.all_rooted within) range.1 timed;
    }

-- a search whose state is that after the change grows on
pub grows_on : (s t : Search) (d : ℤ) → IsForest s → IsSound t → HasTreeNodes t → IsPlanted (state_of t) → state_of t ≡ applied (state_of s) d → t.start ≡ s.start
    → t.clock ≡ s.clock +ℤ d → Stays (state_of s) s.start s.clock d → IsForest t
grows_on s t d h sound tree_nodes planted is start clock left = record {
  sound = sound;
  listed = tree_nodes;
  all_rooted = planted;
  trees = λ none. h.trees (sym (ap tree_count is) ∙ none);
  bounded = subst (λ y. IsBounded (state_of t) y) (sym start) (subst (λ (x : State). IsBounded x s.start) (sym is) left.bounded);
  timed = subst (λ y. IsTimed (state_of t) y t.clock) (sym start)
      (subst (λ y. IsTimed (state_of t) s.start y) (sym clock) (subst (λ (x : State). IsTimed x s.start (s.clock +ℤ d)) (sym is) left.timed));
}

-- where nothing comes next the forest is stuck
pub stuck_forest : (s : Search) → IsForest s → IsStuck (state_of s) → HasStuckForest s
stuck_forest s h stuck = let r = roots_counted (state_of s) h.trees in record { sound = h.sound; all_rooted = h.all_rooted; root = r.0; is_root = r.1; stuck = stuck }

-- an event that was found, with the change that leads to it
pub record IsFound (s : Search) (event : Event) (d : ℤ) : Type 0 where
  pub possible : IsPossible (applied (state_of s) d) event
  pub within : IsWithin (state_of s) d
  pub left : Stays (state_of s) s.start s.clock d

pub found : (s : Search) (next : Next) (event : Event) (d told : ℤ) → told ≡ d → IsNext (state_of s) next → IsNextWithin (state_of s) next → event_of next ≡ Some (event, d)
    → IsForest s → IsFound s event told
found s next event d told back is within same h =
    let all : Comes (state_of s) (Some (event, d)) = subst (Comes (state_of s)) same (comes (state_of s) next is within) in
    subst (IsFound s event) (sym back) (record { possible = all.0.possible; within = all.1; left = stays s d event h all.1 all.0.possible })

-- a change of duals keeps what is counted
pub keeps_applied : (s t : State) (d : ℤ) → t ≡ applied s d → KeepsCounts s t
keeps_applied s t d is = record { exposed = ap exposed_count is; left = ap measure is; inspections = ap looks_left is }
