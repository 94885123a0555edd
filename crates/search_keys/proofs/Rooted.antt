-- What is left of the bounds when an exposed node becomes a root, before its vertices give their keys.
use Rattle.alt_forest.proofs.Common.{◌≡◌, ◌≢◌, ℕ, ◌+◌, ◌≤◌, true, false, refl, sym, ap, ◌∙◌, subst, arith, inr, All, both_ways, holds, is_vertex, members_of}
use Rattle.alt_forest.proofs.Common.{outermost, Label, Outer, Out, outermost_has, moment_of, IsExposed, dual_sum, IsSound, label_at, put, state_of, ends_around, looks_left, nested_of}
use Rattle.alt_forest.proofs.Common.{members_vertices, planted_blossoms, planted_state, root_looks, outer_not_out, put_other}
use Rattle.alt_forest.specs.declared.search.Search.{Search}
use Rattle.search_keys.specs.declared.bounds.EventBounds.{EventBounds}
use Rattle.search_keys.specs.Bounds.{IsBounding, IsBoundingBut, reach}
use Rattle.search_keys.specs.Looks.{is_stale_at, stale_ends}
use Rattle.search_keys.proofs.Kept.{IsKept, bounding_still}
use Rattle.search_keys.proofs.Near.{near_same}
use Rattle.search_keys.proofs.Stale.{KeepsOuter, stale_fewer, stale_still}

module _ (s t : Search) (v : ℕ) (is : t ≡ record s { arena = record s.arena { motions = t.arena.motions }; labels = t.labels; tree_nodes = t.tree_nodes; scanned = t.scanned })
    (labels : label_at t.labels.items ≡ put (label_at s.labels.items) v Outer) (sound : IsSound s) (exposed : IsExposed (state_of s) v) (out : label_at s.labels.items v ≡ Out) where
  rooted_node : (x : ℕ) → outermost t.arena.blossoms x ≡ outermost s.arena.blossoms x
  rooted_node x = ap (λ (y : Search). outermost y.arena.blossoms x) is

  rooted_sum : (x : ℕ) → dual_sum (state_of t) x ≡ dual_sum (state_of s) x
  rooted_sum x = ap (λ (y : Search). dual_sum (state_of y) x) is

  rooted_reach : (x : ℕ) → reach (state_of t) t.clock x ≡ reach (state_of s) s.clock x
  rooted_reach x = ap (λ (y : Search). reach (state_of y) y.clock x) is

  -- the other nodes keep their labels
  rooted_label : (x : ℕ) → outermost s.arena.blossoms x ≢ v → (state_of t).label (outermost t.arena.blossoms x) ≡ (state_of s).label (outermost s.arena.blossoms x)
  rooted_label x ne = ap (label_at t.labels.items) (rooted_node x) ∙ ap (λ (f : ℕ → Label). f (outermost s.arena.blossoms x)) labels
      ∙ put_other (label_at s.labels.items) v Outer (outermost s.arena.blossoms x) ne

  -- what isn't one of its vertices lies in another node
  rooted_else : (x : ℕ) → is_vertex s.graph.vertices x ≡ true → holds (members_of s.arena.blossoms v) x ≡ false → outermost s.arena.blossoms x ≢ v
  rooted_else x vertex none p =
      both_ways (holds (members_of s.arena.blossoms v) x) none
      (subst (λ (a : ℕ). holds (members_of s.arena.blossoms a) x ≡ true) p (outermost_has s.graph.vertices s.arena.blossoms x (nested_of s sound.shape) vertex).1)

  rooted_kept : (x : ℕ) → is_vertex s.graph.vertices x ≡ true → holds (members_of s.arena.blossoms v) x ≡ false → IsKept s t x
  rooted_kept x vertex none = record {
    label = inr (rooted_label x (rooted_else x vertex none));
    out = λ e. rooted_sum x;
    outer = λ e. rooted_reach x;
    apart = λ u there e apart p. apart (rooted_node u ∙ p ∙ sym (rooted_node x));
  }

  pub rooted_bounding : (b : EventBounds) → IsBounding s b → t.scanned.items ≡ members_of s.arena.blossoms v → IsBoundingBut t b t.scanned.items
  rooted_bounding b h noted = subst (IsBoundingBut t b) (sym noted) (bounding_still s t b (members_of s.arena.blossoms v) sound.shape h (ap (λ (y : Search). y.graph) is)
      (ap (λ (y : Search). y.weights) is) (rw is h.low) (rw is h.high)
      (near_same (state_of s) (state_of t) s.clock t.clock (ap (λ (y : Search). y.graph) is) (ap (λ (y : Search). y.clock) is) (λ x vertex. rooted_sum x) h.near) rooted_kept
      (rw is (planted_blossoms s t v is labels sound exposed out b.moments h.blossoms))
      (λ item. ap (λ (y : Search). moment_of y.queue item) is ∙ h.unused item))

  -- outer nodes stay so, and keep what they are
  rooted_outer : KeepsOuter s t
  rooted_outer = record {
    graph = ap (λ (y : Search). y.graph) is;
    weights = ap (λ (y : Search). y.weights) is;
    outer = λ x vertex outer. rooted_label x (λ p. outer_not_out (sym outer ∙ ap (state_of s).label p ∙ out)) ∙ outer;
    reach = λ x vertex outer. rooted_reach x;
    apart = λ x u vertex there outer apart p. apart (sym (rooted_node x) ∙ p ∙ rooted_node u);
  }

  rooted_still : (b : EventBounds) → IsBounding s b → (x : ℕ) → is_vertex s.graph.vertices x ≡ true → is_stale_at s b x ≡ false → is_stale_at t b x ≡ false
  rooted_still b h = stale_still s t b b sound.shape h.hints rooted_outer (λ x vertex. refl) (λ x vertex. refl)

  -- so no more vertices have to be looked at anew once these have given their keys
  pub rooted_stale : (b d : EventBounds) → IsBounding s b
      → ((x : ℕ) → is_vertex t.graph.vertices x ≡ true → is_stale_at t b x ≡ false → is_stale_at t d x ≡ false)
      → stale_ends t d ≤ stale_ends s b
  rooted_stale b d h still = stale_fewer s t b d (ap (λ (y : Search). y.graph) is)
      (λ x vertex fresh. still x (ap (λ (y : Search). is_vertex y.graph.vertices x) is ∙ vertex) (rooted_still b h x vertex fresh))

  -- its vertices are noted, and the looks at them are paid for
  pub rooted_vertices : t.scanned.items ≡ members_of s.arena.blossoms v → All (λ w. is_vertex t.graph.vertices w ≡ true) t.scanned.items
  rooted_vertices noted = rw (noted, is) (members_vertices s.graph.vertices s.arena.blossoms v (nested_of s sound.shape) exposed.0)

  pub rooted_looks : t.scanned.items ≡ members_of s.arena.blossoms v → looks_left (state_of t) + ends_around t.graph t.scanned.items ≤ looks_left (state_of s)
  rooted_looks noted = omega (
    arith,
    ap (λ (y : Search). ends_around y.graph t.scanned.items) is,
    ap (ends_around s.graph) noted,
    ap looks_left (planted_state s t v is labels sound exposed out),
    root_looks (state_of s) v (nested_of s sound.shape) exposed.0 out,
  )
