-- A matching that misses another vertex in place of one of the same tree.
use Rattle.alt_forest.proofs.Common.{◌≡◌, ◌≢◌, ℕ, true, not, refl, sym, ap, ◌∙◌, subst, Option, Some, None, arith, is_some, false_from_ne_true, holds, IsNested}
use Rattle.alt_forest.proofs.Common.{is_vertex, outermost, members_of, Outer, outermost_has, outermost_by_member, State, IsOutermost, IsExposed, IsSearchState, root_of, IsRoot, no_entry}
use Rattle.alt_forest.proofs.Common.{outer_not_out, ways_lead, root_self}
use Rattle.augment.specs.Matching.{IsMissedIn, MissesOneEach, MissesInstead}
use Rattle.augment.specs.Opening.{LeadsTo}
use Rattle.augment.specs.Turns.{IsUprooted, with_mates}
use Rattle.augment.proofs.LeftOut.{left_out, left_led, left_first, LeavesOut}

module _ (s : State) (depth : ℕ → ℕ) (nested : IsNested s.graph.vertices s.blossoms) (st : IsSearchState s depth) (old : MissesOneEach s s.mate) (x : ℕ)
    (ix : is_vertex s.graph.vertices x ≡ true) (lab : s.label (outermost s.blossoms x) ≡ Outer) (inner : ℕ → ℕ) (leads : LeadsTo s.blossoms x inner)
    (m final : ℕ → Option ℕ) (up : IsUprooted s m (outermost s.blossoms x)) (l : LeavesOut (with_mates s m) inner final) where
  abbrev far : ℕ
  far = outermost s.blossoms x

  abbrev root : ℕ
  root = root_of s far

  far_is : IsOutermost s far
  far_is = (outermost_has s.graph.vertices s.blossoms x nested ix).0

  is_root : IsRoot s root
  is_root = (ways_lead s depth far nested st far_is (λ q. outer_not_out (sym lab ∙ q))).root

  -- where the node has no mate it is the root
  far_root : s.mate far ≡ None → root ≡ far
  far_root none = root_self s depth nested st far (record { outermost = far_is; outer = lab; exposed = none })

  -- what the old matching misses in a node without a mate is its first vertex, and so is what is left out, but of the one node
  first_left : (a w : ℕ) → IsExposed s a → a ≢ far → IsMissedIn s s.mate a w → w ≡ left_out inner s.blossoms a
  first_left a w ex ne miss =
      sym (old.first a w ex miss)
      ∙ left_first s.graph.vertices inner s.blossoms x nested leads a ex.0
      (false_from_ne_true (holds (members_of s.blossoms a) x) (λ q. ne (sym (outermost_by_member s.graph.vertices s.blossoms a x nested ex.0 q))))

  free_before : (a : ℕ) → a ≢ far → m a ≡ None → s.mate a ≡ None
  free_before a ne none = grind (arith, is_root.exposed, up.seen a)

  given : (w : ℕ) × IsMissedIn s s.mate root w × ((y : ℕ) → IsMissedIn s s.mate root y → y ≡ w)
  given = old.one root (is_root.outermost, is_root.exposed)

  missed_there : IsMissedIn (with_mates s m) final far (left_out inner s.blossoms far)
  missed_there = l.left far (far_is, up.free)

  led : left_out inner s.blossoms far ≡ x
  led = left_led s.graph.vertices inner s.blossoms x nested ix leads

  fewer : (w : ℕ) → is_vertex s.graph.vertices w ≡ true → w ≢ x → final w ≡ None → s.mate w ≡ None
  fewer w iw ne none =
      let a : ℕ = outermost s.blossoms w in
      let outer : IsOutermost s a = (outermost_has s.graph.vertices s.blossoms w nested iw).0 in
      let p = l.only a w (record { vertex = iw; within = refl; none = none }) in
      let elsewhere : a ≢ far = λ q. ne (p.1 ∙ ap (left_out inner s.blossoms) q ∙ led) in
      let ex : IsExposed s a = (outer, free_before a elsewhere p.0) in let q = old.one a ex in
      ap s.mate (p.1 ∙ sym (first_left a q.0 ex elsewhere q.1)) ∙ q.1.none

  kept : (w : ℕ) → is_vertex s.graph.vertices w ≡ true → w ≢ given.0 → s.mate w ≡ None → final w ≡ None
  kept w iw ne none = by_mate (s.mate (outermost s.blossoms w)) refl
    where
      outer : IsOutermost s (outermost s.blossoms w)
      outer = (outermost_has s.graph.vertices s.blossoms w nested iw).0

      miss : IsMissedIn s s.mate (outermost s.blossoms w) w
      miss = record { vertex = iw; within = refl; none = none }

      by_mate : (o : Option ℕ) → s.mate (outermost s.blossoms w) ≡ o → final w ≡ None
      by_mate (Some e) has = absurd (old.none (outermost s.blossoms w) e w outer has miss)
      by_mate None free =
          let b : ℕ = outermost s.blossoms w in
          let other : b ≢ root = λ q. ne (given.2 w (subst (λ y. IsMissedIn s s.mate y w) q miss)) in
          let elsewhere : b ≢ far = λ q. other (q ∙ sym (far_root (ap s.mate (sym q) ∙ free))) in
          let still : m b ≡ None = no_entry (m b) (ap not (up.seen b elsewhere other ∙ ap (λ (o : Option ℕ). is_some o) free)) in
          ap final (first_left b w (outer, free) elsewhere miss) ∙ (l.left b (outer, still)).none

  pub misses_instead : MissesInstead s.graph.vertices s.mate final x
  misses_instead = record { free = ap final (sym led) ∙ missed_there.none; given = given.0; given_is = given.1.vertex; was_free = given.1.none; fewer = fewer; kept = kept }
