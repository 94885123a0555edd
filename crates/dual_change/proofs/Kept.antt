-- Bounds stay what they are while the clock moves along with a change of the duals.
use Rattle.alt_forest.proofs.Common.{◌≡◌, ℕ, ◌≤◌, ℤ, pos, ◌+ℤ◌, ◌-ℤ◌, ◌≤ℤ◌, true, [], refl, sym, ap, ◌∙◌, subst, arith, inr, ints, NUMBER_LIMIT}
use Rattle.alt_forest.proofs.Common.{Multigraph, holds, is_vertex, names_of, outermost, Label, Outer, Inner, Out, moment_of, State, dual_sum, IsBlossomEntered, IsSound, state_of, nested_of}
use Rattle.alt_forest.specs.declared.search.Search.{Search}
use Rattle.search_keys.specs.declared.bounds.EventBounds.{EventBounds}
use Rattle.search_keys.specs.Bounds.{HasHints, HasNearSums, IsBounding, reach}
use Rattle.search_keys.specs.Looks.{stale_ends}
use Rattle.search_keys.proofs.Kept.{IsKept, bounding_still}
use Rattle.search_keys.proofs.Near.{near_later}
use Rattle.search_keys.proofs.Stale.{KeepsOuter, stale_kept}
use Rattle.dual_change.specs.Changes.{applied, share}
use Rattle.dual_change.proofs.Applied.{dual_sum_grows}
use Rattle.dual_change.proofs.Clock.{blossom_later}
use Rattle.dual_change.proofs.Raised.{raised}

still : (x y z : ℤ) → z ≡ y +ℤ pos 0 → x ≡ z → x ≡ y
still x y z e f = omega (arith, ints)

as_far : (clock d x y z : ℤ) → z ≡ y +ℤ d → x ≡ z → x -ℤ (clock +ℤ d) ≡ y -ℤ clock
as_far clock d x y z e f = omega (arith, ints)

both_least : (x y : ℕ) → x ≤ y → y ≤ x → x ≡ y
both_least x y p q = omega (arith, p, q)

-- a change of d moves no sum farther than by d
moved : (x y d : ℤ) (l : Label) → pos 0 ≤ℤ d → x ≡ y +ℤ share d l → ((y -ℤ d) ≤ℤ x) × (x ≤ℤ (y +ℤ d))
moved x y d Outer low is = (omega (arith, ints, low, is), omega (arith, ints, low, is))
moved x y d Inner low is = (omega (arith, ints, low, is), omega (arith, ints, low, is))
moved x y d Out low is = (omega (arith, ints, low, is), omega (arith, ints, low, is))

-- the search t is s after a change of d
module _ (s t : Search) (d : ℤ) (sound : IsSound s) (rest : t ≡ raised s t.arena.duals (s.clock +ℤ d)) (state : state_of t ≡ applied (state_of s) d) where
  clock_now : t.clock ≡ s.clock +ℤ d
  clock_now = ap (λ (u : Search). u.clock) rest

  label_now : (v : ℕ) → (state_of t).label (outermost t.arena.blossoms v) ≡ (state_of s).label (outermost s.arena.blossoms v)
  label_now v = ap (λ (u : Search). (state_of u).label (outermost u.arena.blossoms v)) rest

  node_now : (v : ℕ) → outermost t.arena.blossoms v ≡ outermost s.arena.blossoms v
  node_now v = ap (λ (u : Search). outermost u.arena.blossoms v) rest

  sum_now : (v : ℕ) (l : Label) → is_vertex s.graph.vertices v ≡ true → (state_of s).label (outermost s.arena.blossoms v) ≡ l → dual_sum (state_of t) v ≡ dual_sum (state_of s) v +ℤ share d l
  sum_now v l is lab = ap (λ (x : State). dual_sum x v) state ∙ dual_sum_grows (state_of s) d sound.shape.graph.graph (nested_of s sound.shape) v is
      ∙ ap (λ (k : Label). dual_sum (state_of s) v +ℤ share d k) lab

  -- a vertex of an outer node is as far ahead of the clock as before
  reach_now : (v : ℕ) → is_vertex s.graph.vertices v ≡ true → (state_of s).label (outermost s.arena.blossoms v) ≡ Outer → reach (state_of t) t.clock v ≡ reach (state_of s) s.clock v
  reach_now v is lab = ap (λ (x : ℤ). dual_sum (state_of t) v -ℤ x) clock_now
      ∙ as_far s.clock d (dual_sum (state_of t) v) (dual_sum (state_of s) v) _ refl (sum_now v Outer is lab)

  kept_now : (v : ℕ) → is_vertex s.graph.vertices v ≡ true → IsKept s t v
  kept_now v is = record {
    label = inr (label_now v);
    out = λ lab. still (dual_sum (state_of t) v) (dual_sum (state_of s) v) _ refl (sum_now v Out is (sym (label_now v) ∙ lab));
    outer = λ lab. reach_now v is (sym (label_now v) ∙ lab);
    apart = λ u there lab ne same. ne (node_now u ∙ same ∙ sym (node_now v));
  }

  near_now : HasNearSums (state_of s) s.clock → pos 0 ≤ℤ d → HasNearSums (state_of t) t.clock
  near_now h low = near_later (state_of s) (state_of t) s.clock t.clock d (ap (λ (u : Search). u.graph) rest) clock_now
      (λ v is. let l : Label = (state_of s).label (outermost s.arena.blossoms v) in moved (dual_sum (state_of t) v) (dual_sum (state_of s) v) d l low (sum_now v l is refl)) h

  pub bounding_later : (b : EventBounds) → IsBounding s b → pos 0 ≤ℤ d → (s.clock +ℤ d) ≤ℤ NUMBER_LIMIT → IsBounding t b
  bounding_later b h low high = bounding_still s t b [] sound.shape h (ap (λ (u : Search). u.graph) rest) (ap (λ (u : Search). u.weights) rest)
      (let start : pos 0 ≤ℤ s.clock = h.low in omega (arith, ints, start, low, clock_now)) (subst (λ (x : ℤ). x ≤ℤ NUMBER_LIMIT) (sym clock_now) high) (near_now h.near low)
      (λ v is none. kept_now v is)
      (λ a name. subst (λ (x : State). IsBlossomEntered x t.clock b.moments a) (sym state) (subst (λ (x : ℤ). IsBlossomEntered (applied (state_of s) d) x b.moments a) (sym clock_now)
      (blossom_later (state_of s) sound.depth sound.shape.graph.graph (nested_of s sound.shape) s.clock d b.moments a
      (h.blossoms a (ap (λ (u : Search). holds (names_of u.arena.blossoms) a) (sym rest) ∙ name)))))
      (λ item. ap (λ (u : Search). moment_of u.queue item) rest ∙ h.unused item)

  -- nor has another vertex to be looked at anew
  pub stale_later : (b : EventBounds) → IsSound t → IsBounding s b → stale_ends t b ≡ stale_ends s b
  stale_later b now h =
      let graph : t.graph ≡ s.graph = ap (λ (u : Search). u.graph) rest in
      let vertex : (v : ℕ) → is_vertex t.graph.vertices v ≡ true → is_vertex s.graph.vertices v ≡ true = λ v is. ap (λ (g : Multigraph). is_vertex g.vertices v) (sym graph) ∙ is in
      let forth : KeepsOuter s t = record {
        graph = graph;
        weights = ap (λ (u : Search). u.weights) rest;
        outer = λ v is lab. label_now v ∙ lab;
        reach = λ v is lab. reach_now v is lab;
        apart = λ v u is there lab ne same. ne (sym (node_now v) ∙ same ∙ node_now u);
      } in
      let back : KeepsOuter t s = record {
        graph = sym graph;
        weights = sym (ap (λ (u : Search). u.weights) rest);
        outer = λ v is lab. sym (label_now v) ∙ lab;
        reach = λ v is lab. sym (reach_now v (vertex v is) (sym (label_now v) ∙ lab));
        apart = λ v u is there lab ne same. ne (node_now v ∙ same ∙ sym (node_now u));
      } in
      both_least (stale_ends t b) (stale_ends s b)
      (stale_kept s t b b sound.shape h.hints forth (λ v is. refl) (λ v is. refl))
      (stale_kept t s b b now.shape (subst (λ (g : Multigraph). HasHints g b) (sym graph) h.hints) back (λ v is. refl) (λ v is. refl))
