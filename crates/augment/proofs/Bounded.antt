-- What is left of the bounds of a search once two trees are taken away: their vertices, all labelled out now, are entered anew.
use Rattle.alt_forest.proofs.Common.{◌≡◌, ℕ, true, cond, List, [], ◌∷◌, length, refl, sym, ap, ◌∙◌, subst, arith, inr, edges_around, holds, outermost, Label, Outer, Out}
use Rattle.alt_forest.proofs.Common.{first_in, later_in, State, is_label, IsSound, state_of, label_at}
use Rattle.alt_forest.specs.declared.search.Search.{Search}
use Rattle.search_keys.specs.declared.bounds.EventBounds.{EventBounds}
use Rattle.search_keys.specs.Bounds.{IsBounding, IsBoundingBut}
use Rattle.search_keys.specs.Looks.{ends_outer}
use Rattle.search_keys.proofs.Kept.{bounding_still}
use Rattle.search_keys.proofs.Near.{near_same}
use Rattle.augment.specs.Exchange.{IsExchanged}
use Rattle.augment.proofs.Joined.{inner_before}
use Rattle.augment.proofs.Removed.{IsCut}

none_outer : (s : State) (vs : List ℕ) → ((w : ℕ) → holds vs w ≡ true → s.label (outermost s.blossoms w) ≡ Out) → ends_outer s vs ≡ 0
none_outer s [] out = refl
none_outer s (v ∷ vs) out =
    let here : cond (is_label (s.label (outermost s.blossoms v)) Outer) (length (edges_around s.graph v)) 0 ≡ 0 =
    ap (λ (l : Label). cond (is_label l Outer) (length (edges_around s.graph v)) 0) (out v (first_in v vs)) in
    let later : ends_outer s vs ≡ 0 = none_outer s vs (λ w on. out w (later_in v vs w on)) in
    omega (arith, here, later)

module _ (s t : Search) (e one other : ℕ) (sound : IsSound s) (rest : IsCut s t) (h : IsExchanged s t e one other) where
  -- a vertex that isn't noted lies in the same node, with the same label
  bounding_here : (b : EventBounds) → IsBounding s b
      → IsBoundingBut (record s {
        arena = record s.arena { motions = t.arena.motions };
        labels = t.labels;
        mates = t.mates;
        tree_nodes = t.tree_nodes;
        scanned = t.scanned;
      }) b t.scanned.items
  bounding_here b q = bounding_still s (record s { arena = record s.arena { motions = t.arena.motions }; labels = t.labels; mates = t.mates; tree_nodes = t.tree_nodes; scanned = t.scanned })
      b t.scanned.items sound.shape q refl refl q.low q.high (near_same (state_of s) _ s.clock _ refl refl (λ v is. refl) q.near)
      (λ v is unnoted. record { label = inr (h.scans v is unnoted); out = λ _. refl; outer = λ _. refl; apart = λ u there lab ne. ne })
      (λ a name is lab. q.blossoms a name is (inner_before s t e one other sound rest h a is lab))
      q.unused

  pub bounding_but : (b : EventBounds) → IsBounding s b → IsBoundingBut t b t.scanned.items
  bounding_but b q = subst (λ (u : Search). IsBoundingBut u b t.scanned.items) (sym rest) (bounding_here b q)

  -- no noted vertex lies in an outer node
  pub no_looks : ends_outer (state_of t) t.scanned.items ≡ 0
  no_looks = none_outer (state_of t) t.scanned.items (λ w on. ap (λ (u : Search). label_at t.labels.items (outermost u.arena.blossoms w)) rest ∙ (h.gone w on).1)
