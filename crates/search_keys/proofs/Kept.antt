-- What a step leaves of the bounds of a search: all that was given before, but for what the vertices that it notes have to give.
use Rattle.alt_forest.proofs.Common.{◌≡◌, ◌≢◌, ◌⊎◌, ℕ, ℤ, pos, ◌≤ℤ◌, ◌*ℤ◌, ◌-ℤ◌, Bool, true, false, cond, List, Option, Some, None, refl, sym, ap}
use Rattle.alt_forest.proofs.Common.{ap₂, ◌∙◌, subst, ⊎_elim, NUMBER_LIMIT, Multigraph, holds, is_vertex, names_of, outermost, Label, Outer, Inner, Out, Item, moment_of, dual_sum}
use Rattle.alt_forest.proofs.Common.{LeadsTo, HasShape, is_given, state_of, IsBlossomEntered, leads_vertex, outer_not_inner}
use Rattle.alt_forest.specs.declared.search.Search.{Search}
use Rattle.search_keys.specs.declared.bounds.EventBounds.{EventBounds}
use Rattle.search_keys.specs.Bounds.{ComesUp, HasHints, HasNearSums, HasPlaces, IsBounding, IsBoundingBut, IsHalf, bound_of, key_from, key_of, reach}
use Rattle.alt_forest.proofs.Leads.{leads_back}

-- A vertex has the label of its node that it had, or lies in an inner node now. Out of the trees it keeps its dual sum, in an outer
-- node its reach, and what lies in another node then did so before.
pub record IsKept (s t : Search) (v : ℕ) : Type 0 where
  pub label : ((state_of t).label (outermost t.arena.blossoms v) ≡ Inner)
      ⊎ ((state_of t).label (outermost t.arena.blossoms v) ≡ (state_of s).label (outermost s.arena.blossoms v))
  pub out : (state_of t).label (outermost t.arena.blossoms v) ≡ Out → dual_sum (state_of t) v ≡ dual_sum (state_of s) v
  pub outer : (state_of t).label (outermost t.arena.blossoms v) ≡ Outer → reach (state_of t) t.clock v ≡ reach (state_of s) s.clock v
  pub apart : (u : ℕ) → is_vertex s.graph.vertices u ≡ true → (state_of t).label (outermost t.arena.blossoms v) ≡ Outer
      → outermost t.arena.blossoms u ≢ outermost t.arena.blossoms v → outermost s.arena.blossoms u ≢ outermost s.arena.blossoms v

-- the moment at which a key comes up depends on no more than that
comes_same : (was now : Label) (sum sum2 clock clock2 : ℤ) (key moment : Option ℤ) → (now ≡ Inner) ⊎ (now ≡ was) → (now ≡ Out → sum2 ≡ sum)
    → (now ≡ Outer → sum2 -ℤ clock2 ≡ sum -ℤ clock) → ComesUp was sum clock key moment
    → ComesUp now sum2 clock2 key moment
comes_same was now sum sum2 clock clock2 key moment label out outer h =
    ⊎_elim (λ e. subst (λ (l : Label). ComesUp l sum2 clock2 key moment) (sym e) tt)
    (λ e. by_label now key refl (subst (λ (l : Label). ComesUp l sum clock key moment) (sym e) h))
    label
  where
    by_label : (l : Label) (k : Option ℤ) → now ≡ l → ComesUp l sum clock k moment → ComesUp l sum2 clock2 k moment
    by_label Inner k is h = tt
    by_label Out None is h = h
    by_label Out (Some k) is h = subst (λ (x : ℤ). moment ≡ Some (k -ℤ x)) (sym (out is)) h
    by_label Outer None is h = h
    by_label Outer (Some k) is h = subst (λ (r : ℤ). (x : ℤ) × (moment ≡ Some x) × IsHalf (k -ℤ r) x) (sym (outer is)) h

-- The step: t is the search after it, and c has the keys of b, with moments that may be others for what is noted and for blossoms.
pub bounding_kept : (s t : Search) (b c : EventBounds) (noted : List ℕ) → HasShape s → IsBounding s b → t.graph ≡ s.graph → t.weights ≡ s.weights → pos 0 ≤ℤ t.clock
    → t.clock ≤ℤ NUMBER_LIMIT → HasNearSums (state_of t) t.clock → HasPlaces s.graph c → c ≡ record b { moments = c.moments }
    → ((v : ℕ) → is_vertex s.graph.vertices v ≡ true → holds noted v ≡ false → IsKept s t v)
    → ((v : ℕ) → is_vertex s.graph.vertices v ≡ true → holds noted v ≡ false → bound_of c.moments v ≡ bound_of b.moments v)
    → ((a : ℕ) → holds (names_of t.arena.blossoms) a ≡ true → IsBlossomEntered (state_of t) t.clock c.moments a)
    → ((item : Item) → moment_of t.queue item ≡ None) → IsBoundingBut t c noted
bounding_kept s t b c noted shape h graph weights low high near places rest kept moments blossoms unused =
    let same_key : (v : ℕ) → key_of c v ≡ key_of b v = λ v. ap (λ (x : EventBounds). key_of x v) rest in
    record {
      low = low;
      high = high;
      near = near;
      places = subst (λ (g : Multigraph). HasPlaces g c) (sym graph) places;
      hints = subst (λ (g : Multigraph). HasHints g c) (sym graph) (subst (HasHints s.graph) (sym rest) h.hints);
      keys = λ e v u w to unnoted outer apart.
          let leads : LeadsTo s.graph e v u w = subst (λ (g : Multigraph). LeadsTo g e v u w) graph to in
          let there = leads_vertex s.graph e u v w shape.graph.graph (leads_back s.graph e v u w leads) in
          let far = leads_vertex s.graph e v u w shape.graph.graph leads in let k = kept v there unnoted in
          let was : (state_of s).label (outermost s.arena.blossoms v) ≡ Outer = ⊎_elim (λ inner. outer_not_inner (sym outer ∙ inner)) (λ same. sym same ∙ outer) k.label in
          let old = h.keys e v u w leads refl was (k.apart u far outer apart) in
          let key : key_from (state_of t) t.clock v w ≡ key_from (state_of s) s.clock v w =
          ap₂ (λ (g : Bool) (r : ℤ). cond g (pos 2 *ℤ w) (pos 0) -ℤ r) (ap is_given weights) (k.outer outer) in
          record { key = old.key; has = same_key u ∙ old.has; low = subst (λ (x : ℤ). old.key ≤ℤ x) (sym key) old.low };
      vertices = λ v there unnoted.
          let is : is_vertex s.graph.vertices v ≡ true = ap (λ (g : Multigraph). is_vertex g.vertices v) (sym graph) ∙ there in
          let k = kept v is unnoted in
          rw (same_key v, moments v is unnoted)
          (comes_same ((state_of s).label (outermost s.arena.blossoms v)) ((state_of t).label (outermost t.arena.blossoms v)) (dual_sum (state_of s) v) (dual_sum (state_of t) v)
          s.clock t.clock (key_of b v) (bound_of b.moments v) k.label k.out k.outer (h.vertices v is refl));
      blossoms = blossoms;
      unused = unused;
    }

-- the same where the bounds are left as they are
pub bounding_still : (s t : Search) (b : EventBounds) (noted : List ℕ) → HasShape s → IsBounding s b → t.graph ≡ s.graph → t.weights ≡ s.weights → pos 0 ≤ℤ t.clock
    → t.clock ≤ℤ NUMBER_LIMIT → HasNearSums (state_of t) t.clock
    → ((v : ℕ) → is_vertex s.graph.vertices v ≡ true → holds noted v ≡ false → IsKept s t v)
    → ((a : ℕ) → holds (names_of t.arena.blossoms) a ≡ true → IsBlossomEntered (state_of t) t.clock b.moments a)
    → ((item : Item) → moment_of t.queue item ≡ None) → IsBoundingBut t b noted
bounding_still s t b noted shape h graph weights low high near kept blossoms unused =
    bounding_kept s t b b noted shape h graph weights low high near h.places refl kept (λ v is unnoted. refl) blossoms unused
