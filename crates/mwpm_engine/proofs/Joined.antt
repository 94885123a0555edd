-- What an augment leaves while a forest grows: all other trees, or none.
use Rattle.alt_forest.proofs.Common.{◌≡◌, ◌≢◌, ◌↔◌, ℕ, ◌+◌, ◌*◌, ◌<◌, ◌≤◌, pos, Bool, true, false, cond, length, refl, sym, ap, subst, arith, ⊎_elim}
use Rattle.alt_forest.proofs.Common.{both_ways, Multigraph, most_blossoms, Family, IsSound, state_of, exposed_count, tree_count, measure, IsPlanted, looks_left, HasTreeNodes, CanAugment}
use Rattle.alt_forest.proofs.Common.{nested_of}
use Rattle.alt_forest.specs.declared.search.Search.{Search}
use Rattle.search_keys.specs.declared.bounds.EventBounds.{EventBounds}
use Rattle.search_keys.specs.Bounds.{HasPlaces, IsBounding}
use Rattle.search_keys.specs.Looks.{stale_ends}
use Rattle.dual_change.specs.declared.event.Event.{Event}
use Rattle.dual_change.specs.declared.event.Event.TheVariants.{Augment}
use Rattle.mwpm_engine.specs.Solutions.{size_of_graph}
use Rattle.mwpm_engine.specs.Passes.{IsSamePass, IsForest, IsRunning, Stage, stage_of, IsKeptFor, GoesOn, Completes, Happens, augment_account, bounding_account, pass_account, shrinks_left}
use Rattle.mwpm_engine.specs.Passes.{steps_to}
use Rattle.mwpm_engine.proofs.BoundedEvents.{arena_duals, still_bounded, grows_still}
use Rattle.mwpm_engine.proofs.Forest.{none_left}
use Rattle.mwpm_engine.proofs.StepCounts.{times_le, left_most, looks_most, few_blossoms, some_or_none, steps_few}
use Rattle.mwpm_engine.proofs.PassCounts.{SavesLooks, shrinks_most, took, joined_paid, join_paid, left_falls, less_left}

-- a search whose trees and mates alone are others
abbrev pub IsJoinedFrom : Search → Search → Type 0
IsJoinedFrom s t = t ≡ record s {
  arena = record s.arena { motions = t.arena.motions };
  labels = t.labels;
  mates = t.mates;
  queue = t.queue;
  clock = t.clock;
  tree_nodes = t.tree_nodes;
  scanned = t.scanned;
}

pub joined_pass : (s t : Search) → IsJoinedFrom s t → IsSamePass s t
joined_pass s t rest = record { graph = ap (λ (x : Search). x.graph) rest; weights = ap (λ (x : Search). x.weights) rest; start = ap (λ (x : Search). x.start) rest }

module _ (s t : Search) (b d : EventBounds) (e old new : ℕ) (forest : IsForest s) (can : CanAugment (state_of s) e) (rest : IsJoinedFrom s t) (sound : IsSound t)
    (fewer : exposed_count (state_of t) + 2 ≡ exposed_count (state_of s)) (planted : IsPlanted (state_of s) → IsPlanted (state_of t)) where
  arena : t.arena ≡ record s.arena { motions = t.arena.motions }
  arena = ap (λ (x : Search). x.arena) rest

  graph : t.graph ≡ s.graph
  graph = ap (λ (x : Search). x.graph) rest

  two : 2 ≤ s.graph.vertices
  two = ⊎_elim (λ some. some) (λ no_edge. let low = can.tight.edge.0 in let high = can.tight.edge.1 in absurd (omega (arith, no_edge, low, high)))
      (some_or_none s.graph forest.sound.shape.graph.graph forest.sound.shape.graph.loopless)

  few : 2 * length t.arena.blossoms + 1 ≤ s.graph.vertices
  few = subst (λ (f : Family). 2 * length f.blossoms + 1 ≤ s.graph.vertices) (sym arena) (few_blossoms s can.one forest.sound.shape can.one_is)

  left : measure (state_of t) ≤ s.graph.vertices + length t.arena.blossoms
  left = subst (λ (g : Multigraph). measure (state_of t) ≤ g.vertices + length t.arena.blossoms) graph (left_most (state_of t))

  looks : looks_left (state_of t) ≤ 2 * length s.graph.edges + 2 * length s.graph.edges * length t.arena.blossoms
  looks = subst (λ (g : Multigraph). looks_left (state_of t) ≤ 2 * length g.edges + 2 * length g.edges * length t.arena.blossoms) graph (looks_most (state_of t) sound.shape.graph.graph.ends)

  shrinks : shrinks_left (state_of t) ≤ most_blossoms s.graph.vertices
  shrinks = subst (λ (g : Multigraph). length t.arena.blossoms ≤ most_blossoms g.vertices → shrinks_left (state_of t) ≤ most_blossoms g.vertices) graph (shrinks_most (state_of t))
      (omega (arith, few))

  -- twice the account has risen by no more than the two exposed nodes pay for
  risen : new + stale_ends t d ≤ old + 1 + 2 * length s.graph.edges → 2 * bounding_account t d new + 4 ≤ 2 * bounding_account s b old + augment_account (size_of_graph s.graph)
  risen count = plain (bounding_account t d new) (stale_ends s b) (looks_left (state_of s)) _ (measure (state_of s)) _
      (joined_paid s.graph.vertices (length s.graph.edges) (length t.arena.blossoms) (most_blossoms s.graph.vertices) new (stale_ends t d) old (looks_left (state_of t))
      (shrinks_left (state_of t)) (2 * length t.graph.edges * shrinks_left (state_of t)) (measure (state_of t))
      few (omega (arith, two)) count looks shrinks (ap (λ (g : Multigraph). 2 * length g.edges * shrinks_left (state_of t)) graph) left)
    where
      plain : (now stale looks times left k : ℕ) → 2 * now + 4 ≤ 2 * old + k → 2 * now + 4 ≤ 2 * (old + stale + looks + times + 3 * left) + k
      plain now stale looks times left k paid = omega (arith, paid)

  joined_account : new + stale_ends t d ≤ old + 1 + 2 * length s.graph.edges → pass_account (stage_of t d new) + 8 ≤ pass_account (stage_of s b old)
  unfolding pass_account
  joined_account count = subst (λ (g : Multigraph). 4 * bounding_account t d new + exposed_count (state_of t) * augment_account (size_of_graph g) + 8
      ≤ 4 * bounding_account s b old + exposed_count (state_of s) * augment_account (size_of_graph s.graph)) (sym graph)
      (join_paid (augment_account (size_of_graph s.graph)) (bounding_account t d new) (bounding_account s b old) (exposed_count (state_of t))
      (exposed_count (state_of s)) (risen count) fewer)

  last_account : new ≡ old + 1 → 4 * new + 2 * augment_account (size_of_graph s.graph) ≤ pass_account (stage_of s b old) + 4
  unfolding pass_account
  last_account step =
      let few : old ≤ bounding_account s b old = omega arith in
      plain (bounding_account s b old) (augment_account (size_of_graph s.graph)) (exposed_count (state_of s) * augment_account (size_of_graph s.graph)) few
      (times_le 2 (exposed_count (state_of s)) (augment_account (size_of_graph s.graph)) (omega (arith, fewer)))
    where
      plain : (account k e : ℕ) → old ≤ account → 2 * k ≤ e → 4 * new + 2 * k ≤ 4 * account + e + 4
      plain account k e low some = omega (arith, low, some, step)

  joined_on : IsBounding t d → HasTreeNodes t → tree_count (state_of t) ≢ 0 → t.clock ≡ s.clock → new + stale_ends t d ≤ old + 1 + 2 * length s.graph.edges
      → GoesOn (stage_of s b old) (stage_of t d new) (Augment e)
  joined_on bounding tree_nodes some clock count = record {
    running = record { forest = grows_still s t forest sound tree_nodes planted some (arena_duals s t arena (joined_pass s t rest)) (joined_pass s t rest) clock; vertex_keys = bounding };
    less = left_falls s.graph.vertices (exposed_count (state_of t)) (exposed_count (state_of s)) (measure (state_of t)) (measure (state_of s)) fewer (omega (arith, left, few));
    paid = joined_account count;
  }

  joined_last : HasPlaces t.graph d → tree_count (state_of t) ≡ 0 → new ≡ old + 1 → Completes (stage_of s b old) (stage_of t d new)
  joined_last places none step = record {
    complete = record {
      sound = sound;
      matched = none_left (state_of t) sound.depth (nested_of t sound.shape) sound.state (planted forest.all_rooted) none;
      bounded = still_bounded s t arena (joined_pass s t rest) forest.bounded;
    };
    places = places;
    vertices = two;
    paid = last_account step;
  }

  pub joined : (left : Bool) → (left ≡ true → IsBounding t d) → HasPlaces t.graph d → HasTreeNodes t → (left ≡ false) ↔ (tree_count (state_of t) ≡ 0) → t.clock ≡ cond left s.clock (pos 0)
      → (left ≡ false → new ≡ old + 1) → (left ≡ true → new + stale_ends t d ≤ old + 1 + 2 * length s.graph.edges) → Happens (stage_of s b old) (stage_of t d new) (Augment e) left
  joined true bounding places tree_nodes trees clock last count = joined_on (bounding refl) tree_nodes (λ none. both_ways true (trees.1 none) refl) clock (count refl)
  joined false bounding places tree_nodes trees clock last count = joined_last places (trees.0 refl) (last refl)

-- a tree that takes something in goes on too
pub took_in : (s t : Search) (b d : EventBounds) (old new : ℕ) (event : Event) → IsRunning t d → t.graph ≡ s.graph → exposed_count (state_of t) ≡ exposed_count (state_of s)
    → SavesLooks s b t d → new + looks_left (state_of t) ≤ old + 1 + looks_left (state_of s) → measure (state_of t) < measure (state_of s)
    → GoesOn (stage_of s b old) (stage_of t d new) event
took_in s t b d old new event running graph exposed saved looks falls = record {
  running = running;
  less = less_left s.graph.vertices (exposed_count (state_of t)) (exposed_count (state_of s)) (measure (state_of t)) (measure (state_of s)) exposed falls;
  paid = took s t b d graph exposed old new (steps_to event) saved looks falls (steps_few event);
}

-- where nothing has changed yet, the augment is that of the event
pub kept_happens : (p q r : Stage) (event : Event) (e : ℕ) (left : Bool) → IsKeptFor p q event e → Happens q r (Augment e) left → Happens p r event left
kept_happens p q r event e left kept h =
    subst (λ (x : Event). Happens p r x left) (sym kept.augment) (subst (λ (x : Stage). Happens x r (Augment e) left) kept.same h)
