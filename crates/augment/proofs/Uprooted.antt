-- A node loses its mate to the root of its tree, and then is matched anew: both ways to the roots are flipped.
use Rattle.alt_forest.proofs.Common.{by_test, or_parts, eq-eqb, eqb-false, no_entry, not, both_ways, cases_eq, ◌||◌, nat_tests, ◌≡◌, ◌≢◌, ℕ, zero, suc, ◌+◌, ◌<◌}
use Rattle.alt_forest.proofs.Common.{true, false, eqb, ◌∷◌, Option, Some, None, refl, sym, ap, ◌∙◌}
use Rattle.alt_forest.proofs.Common.{subst, arith, ⊎_elim, is_some, eqb-true, false_from_ne_true, holds, IsNested, Outer, Out, State, IsOutermost, IsMate}
use Rattle.alt_forest.proofs.Common.{IsSearchState, node_limit, path_of, root_of, IsRoot, put, HasGrandparentLink, IsRead, IsGrandparentLink, hop_above, has_hop, read_is, hop_path, hop_root}
use Rattle.alt_forest.proofs.Common.{joins_turned}
use Rattle.alt_forest.proofs.Common.{mate_turned, partner_unique, descends, passed_at, inl, inr, outer_not_out, outer_not_inner, some_not_none, put_here, put_other, up_or_root, path_root}
use Rattle.alt_forest.proofs.Common.{path_up}
use Rattle.alt_forest.proofs.Common.{root_self, root_up, deeper_differs}
use Rattle.alt_forest.specs.declared.grandparent.GrandparentLink.{GrandparentLink}
use Rattle.augment.specs.Turns.{JoinsTwoTrees, IsLoose, IsClimbed, IsUprooted, IsTurned}
use Rattle.augment.proofs.Climbing.{moved, moved_first, seen_put}
use Rattle.search_heap.proofs.Homes.{some_home}

module _ (s : State) (depth : ℕ → ℕ) (nested : IsNested s.graph.vertices s.blossoms) (st : IsSearchState s depth) where
  -- a node on the way from another one is of its tree
  pub on_way : (k a x : ℕ) → depth a < k → IsOutermost s a → s.label a ≢ Out → holds (path_of s a) x ≡ true → root_of s x ≡ root_of s a
  on_way zero a x low is in_it on = absurd (omega (arith, low))
  on_way (suc k) a x low is in_it on = ⊎_elim
      (λ r. ap (root_of s) (let e : x ≡ a = grind (arith, nat_tests, path_root s depth nested st a r) in e))
      (λ p.
      let b : ℕ = p.0 in let u = p.1 in
      by_test (eqb a x)
      (λ here. ap (root_of s) (sym (eqb-true a x here)))
      (λ past. on_way k b x (omega (arith, u.falls, low)) u.outermost u.in_tree
      (sym (ap (λ xs. holds xs x) (path_up s depth nested st a b is u.up) ∙ ap (λ t. t || holds (path_of s b) x) past) ∙ on)
      ∙ sym (root_up s depth nested st a b is u.outermost u.up)))
      (up_or_root s depth nested st a is in_it)

  -- so what is of another tree is off the way
  pub off_way : (a x : ℕ) → IsOutermost s a → s.label a ≢ Out → root_of s x ≢ root_of s a → holds (path_of s a) x ≡ false
  off_way a x is in_it ne = false_from_ne_true (holds (path_of s a) x) (λ on. ne (on_way (depth a + 1) a x (omega arith) is in_it on))

  -- each way begins with its node
  pub on_own : (a : ℕ) → IsOutermost s a → s.label a ≢ Out → holds (path_of s a) a ≡ true
  on_own a is in_it = ⊎_elim
      (λ r. ap (λ xs. holds xs a) (path_root s depth nested st a r) ∙ ap (λ t. t || false) (eq-eqb a a refl))
      (λ p. ap (λ xs. holds xs a) (path_up s depth nested st a p.0 is p.1.up) ∙ ap (λ t. t || holds (path_of s p.0) a) (eq-eqb a a refl)) (up_or_root s depth nested st a is in_it)

  -- a root has no mate to lose
  pub uprooted_root : (far : ℕ) → IsRoot s far → IsUprooted s s.mate far
  uprooted_root far r = record {
    mates = λ a e is has. let w = st.mates a e is has in (w.0, moved_first s s.mate a e w.0 w.1 refl);
    free = r.exposed;
    keeps = λ a off. refl;
    root_has = λ ne. absurd (ne (root_self s depth nested st far r));
    seen = λ c ne nr. refl;
  }

  -- an outer node with a mate has a grandparent link, and what is read there is that one
  hop_there : (far : ℕ) → IsOutermost s far → s.label far ≡ Outer → is_some (s.mate far) ≡ true → (k : GrandparentLink) × IsGrandparentLink s depth far k
  hop_there far is lab has =
      let some = some_home (s.mate far) has in
      hop_above s depth far some.0 st is lab some.1

  pub some_hop : (far : ℕ) → IsOutermost s far → s.label far ≡ Outer → is_some (s.mate far) ≡ true → HasGrandparentLink s far
  some_hop far is lab has = let k = hop_there far is lab has in has_hop s depth far k.0 k.1

  pub read_hop : (far : ℕ) → IsOutermost s far → s.label far ≡ Outer → is_some (s.mate far) ≡ true → (k : GrandparentLink) → IsRead s far k → IsGrandparentLink s depth far k
  read_hop far is lab has k read = let a = hop_there far is lab has in subst (IsGrandparentLink s depth far) (sym (read_is s depth far a.0 a.1 k read)) a.1

  -- an outer node with a mate has none any more, and its mate takes its parent
  module _ (far : ℕ) (k : GrandparentLink) (hop : IsGrandparentLink s depth far k) where
    abbrev base : ℕ → Option ℕ
    base = put s.mate far None

    abbrev begun : ℕ → Option ℕ
    begun = put base k.inner (Some k.parent)

    begun_else : (c : ℕ) → c ≢ k.inner → c ≢ far → begun c ≡ s.mate c
    begun_else c not_inner not_far = put_other base k.inner (Some k.parent) c not_inner ∙ put_other s.mate far None c not_far

    begun_free : begun far ≡ None
    begun_free = put_other base k.inner (Some k.parent) far hop.is_mate.different ∙ put_here s.mate far None

    pub uproots : IsLoose s depth (put s.mate far None) (put (put s.mate far None) k.inner (Some k.parent)) k.inner k.parent k.outer
    uproots =
        let w = hop.is_mate in
        record {
          edge = hop.edge;
          joins = hop.joins;
          different = deeper_differs depth k.inner k.outer hop.lowest;
          tight = hop.tight;
          low_is = w.outermost;
          high_is = hop.up_is;
          high_outer = hop.up_outer;
          taken = put_here base k.inner (Some k.parent);
          untouched = λ c is root under. begun_else c
              (λ p. let same : depth c ≡ depth k.inner = ap depth p in absurd (omega (arith, hop.lowest)))
              (λ p. let same : depth c ≡ depth far = ap depth p in absurd (omega (arith, hop.lowest, hop.lower)));
          below = inr hop.lowest;
          mates = λ a f is not_inner has.
              let not_far : a ≢ far = λ q. some_not_none f (sym has ∙ ap begun q ∙ begun_free) in
              let r = st.mates a f is (sym (begun_else a not_inner not_far) ∙ has) in
              let b_not_far : r.0 ≢ far = λ q. not_inner (partner_unique s a f k.inner k.mate far (subst (IsMate s a f) q r.1) (mate_turned s far k.mate k.inner hop.is hop.mate w)) in
              let b_not_inner : r.0 ≢ k.inner = λ q. not_far (partner_unique s a f far k.mate k.inner (subst (IsMate s a f) q r.1) w) in
              (r.0, moved_first s begun a f r.0 r.1 (begun_else r.0 b_not_inner b_not_far));
          seen = λ c. seen_put base k.inner k.parent c (ap (λ (o : Option ℕ). is_some o) (put_other s.mate far None k.inner (λ q. w.different (sym q)) ∙ w.back));
        }

    pub uprooted : (m : ℕ → Option ℕ) → IsClimbed s (put s.mate far None) (put (put s.mate far None) k.inner (Some k.parent)) m k.parent k.outer → IsUprooted s m far
    uprooted m c =
        let root : root_of s far ≡ root_of s k.outer = hop_root s depth far k hop depth nested st in
        let way : path_of s far ≡ far ∷ (k.inner ∷ path_of s k.outer) = hop_path s depth far k hop depth nested st in
        let far_off : holds (path_of s k.outer) far ≡ false = false_from_ne_true (holds (path_of s k.outer) far) (λ on.
        let d = passed_at s depth (depth k.outer) (path_of s k.outer) far (descends (node_limit s.graph.vertices + 1) s depth k.outer st hop.up_is).passed on in
        absurd (omega (arith, d.shallow, hop.lowest, hop.lower))) in
        record {
          mates = c.mates;
          free = c.keeps far far_off ∙ begun_free;
          keeps = λ a off.
              let p = or_parts (eqb far a) (eqb k.inner a || holds (path_of s k.outer) a) (ap (λ xs. holds xs a) (sym way) ∙ off) in
              let q = or_parts (eqb k.inner a) (holds (path_of s k.outer) a) p.1 in
              c.keeps a q.1 ∙ begun_else a (λ e. eqb-false k.inner a q.0 (sym e)) (λ e. eqb-false far a p.0 (sym e));
          root_has = λ _. ap (λ x. is_some (m x)) root ∙ c.root_has;
          seen = λ x not_far not_root. c.seen x (λ q. not_root (q ∙ sym root)) ∙ ap (λ (o : Option ℕ). is_some o) (put_other s.mate far None x not_far);
        }

  -- the exposed node takes the other end of the edge
  module _ (e near far : ℕ) (h : JoinsTwoTrees s e near far) (m : ℕ → Option ℕ) (u : IsUprooted s m far) where
    near_in : s.label near ≢ Out
    near_in q = outer_not_out (sym h.near_outer ∙ q)

    far_in : s.label far ≢ Out
    far_in q = outer_not_out (sym h.far_outer ∙ q)

    abbrev taken : ℕ → Option ℕ
    taken = put m far (Some e)

    far_ne : near ≢ far
    far_ne q = h.two_trees (ap (root_of s) q)

    pub turns : IsLoose s depth (put m far (Some e)) (put m far (Some e)) far e near
    turns =
        record {
          edge = h.tight.edge;
          joins = joins_turned s.graph s.blossoms e near far h.joins;
          different = λ q. far_ne (sym q);
          tight = h.tight.tight;
          low_is = h.far_is;
          high_is = h.near_is;
          high_outer = h.near_outer;
          taken = put_here m far (Some e);
          untouched = λ c is root under. put_other m far (Some e) c (λ q. h.two_trees (sym root ∙ ap (root_of s) q))
              ∙ u.keeps c (off_way far c h.far_is far_in (λ q. h.two_trees (sym root ∙ q)));
          below = inl (λ q. outer_not_inner (sym h.far_outer ∙ q));
          mates = λ a f is not_far has.
              let r = u.mates a f is (sym (put_other m far (Some e) a not_far) ∙ has) in
              (r.0, moved s m taken a f r.0 r.1 (put_other m far (Some e) r.0 (λ q. some_not_none f (sym r.1.back ∙ ap m q ∙ u.free))));
          seen = λ c. refl;
        }

    far_off : holds (path_of s near) far ≡ false
    far_off = off_way near far h.near_is near_in (λ q. h.two_trees (sym q))

    had_mate : root_of s far ≢ far → is_some (s.mate far) ≡ true
    had_mate ne =
        let own : s.mate far ≡ None → root_of s far ≡ far = λ none. root_self s depth nested st far (record { outermost = h.far_is; outer = h.far_outer; exposed = none }) in
        by_test (is_some (s.mate far)) (λ t. t) (λ f. absurd (ne (own (no_entry (s.mate far) (ap not f)))))

    pub turned : (n : ℕ → Option ℕ) → IsClimbed s (put m far (Some e)) (put m far (Some e)) n e near → root_of s (root_of s far) ≡ root_of s far → IsTurned s n e near far
    turned n c own = record {
      mates = c.mates;
      near_has = c.has;
      far_has = c.keeps far far_off ∙ put_here m far (Some e);
      near_root_has = c.root_has;
      far_root_has =
          let kept = c.keeps (root_of s far) (off_way near (root_of s far) h.near_is near_in (λ q. h.two_trees (sym q ∙ own))) in
          ⊎_elim (λ at. ap (λ (o : Option ℕ). is_some o) (kept ∙ ap taken at ∙ put_here m far (Some e)))
          (λ ne. ap (λ (o : Option ℕ). is_some o) (kept ∙ put_other m far (Some e) (root_of s far) ne) ∙ u.root_has ne) (cases_eq (root_of s far) far);
      keeps = λ a off_near off_far. c.keeps a off_near
          ∙ put_other m far (Some e) a (λ q. both_ways (holds (path_of s far) a) off_far (ap (holds (path_of s far)) q ∙ on_own far h.far_is far_in)) ∙ u.keeps a off_far;
      seen = λ x not_near not_far. c.seen x not_near ∙ ⊎_elim
          (λ at. ap (λ y. is_some (taken y)) at ∙ ap (λ (o : Option ℕ). is_some o) (put_here m far (Some e)) ∙ sym
          (ap (λ y. is_some (s.mate y)) at ∙ had_mate (λ q. not_far (at ∙ sym q))))
          (λ ne. ap (λ (o : Option ℕ). is_some o) (put_other m far (Some e) x ne) ∙ u.seen x ne not_far) (cases_eq x far);
    }
