-- Two trees whose roots get mates are taken away: their nodes are mates among themselves and labelled out, and all else is
-- as it was.
use Rattle.alt_forest.proofs.Common.{◌≡◌, ◌≢◌, ◌⊎◌, ℕ, ◌<◌, Option, Some, None, refl, sym, ap, ◌∙◌, subst, ⊎_elim, inl, inr, arith, rules, cases_eq, IsNested}
use Rattle.alt_forest.proofs.Common.{outermost, Label, Outer, Inner, Out, State, IsOutermost, IsMate, IsInner, IsSearchState, up_edge_by, far_end, up_of, root_of, IsRoot, joins_unique}
use Rattle.alt_forest.proofs.Common.{joins_turned, mate_unique, outer_not_out, inner_not_out, root_self, root_up, AreTrees, roots_are_trees, tree_root, tight_rings, other_node_joins}
use Rattle.alt_forest.proofs.Common.{deeper_differs}
use Rattle.alt_forest.specs.declared.search.Search.{Search}
use Rattle.augment.specs.Turns.{IsElsewhere, IsRemoved}

-- the state with other mates and labels
abbrev pub with_both : State → (ℕ → Option ℕ) → (ℕ → Label) → State
with_both s m l = record s { mate = m; label = l }

-- what two searches have in common, once two trees of the first are taken away in the second
abbrev pub IsCut : Search → Search → Type 0
IsCut s t = t ≡ record s { arena = record s.arena { motions = t.arena.motions }; labels = t.labels; mates = t.mates; tree_nodes = t.tree_nodes; scanned = t.scanned }

pub where_is : (s : State) (one other a : ℕ) → ((root_of s a ≡ one) ⊎ (root_of s a ≡ other)) ⊎ IsElsewhere s one other a
where_is s one other a = ⊎_elim
    (λ p. inl (inl p)) (λ p. ⊎_elim (λ q. inl (inr q)) (λ q. inr (record { not_one = p; not_other = q })) (cases_eq (root_of s a) other)) (cases_eq (root_of s a) one)

pub elsewhere_too : (s : State) (one other a b : ℕ) → root_of s a ≡ root_of s b → IsElsewhere s one other a → IsElsewhere s one other b
elsewhere_too s one other a b same w = record { not_one = λ q. w.not_one (same ∙ q); not_other = λ q. w.not_other (same ∙ q) }

module _ (s : State) (depth : ℕ → ℕ) (nested : IsNested s.graph.vertices s.blossoms) (st : IsSearchState s depth) where
  -- the mate of an outer node is the next one above it
  outer_up : (a e b : ℕ) → IsOutermost s a → s.label a ≡ Outer → s.mate a ≡ Some e → IsMate s a e b → root_of s a ≡ root_of s b
  outer_up a e b is lab has w =
      let up : up_of s a ≡ b = ap (λ l. far_end s (up_edge_by s l a) a) lab ∙ ap (λ o. far_end s o a) has ∙ other_node_joins s.graph s.blossoms e a b w.joins w.different in
      root_up s depth nested st a b is w.outermost up

  -- what mates in a tree are: of that tree both
  pub record AreTogether (a b : ℕ) : Type 0 where
    pub same : root_of s a ≡ root_of s b
    pub in_tree : s.label b ≢ Out

  pub mates_together : (a e b : ℕ) → IsOutermost s a → s.label a ≢ Out → s.mate a ≡ Some e → IsMate s a e b → AreTogether a b
  mates_together a e b is in_it has w = by_label (s.label a) refl
    where
      by_label : (l : Label) → s.label a ≡ l → AreTogether a b
      by_label Outer lab = record { same = outer_up a e b is lab has w; in_tree = λ out. inner_not_out (sym ((st.labels a is).outer lab e b has w).0 ∙ out) }
      by_label Inner lab =
          let i = (st.labels a is).inner lab in
          let child : b ≡ i.child = mate_unique s a e b i.child_edge i.child has i.mate w i.is_mate in
          let outer : s.label b ≡ Outer = ap s.label child ∙ i.child_outer in
          record {
            same = sym (outer_up b e a w.outermost outer w.back
                (record { edge = w.edge; joins = joins_turned s.graph s.blossoms e a b w.joins; different = λ q. w.different (sym q); tight = w.tight; outermost = is; back = has }));
            in_tree = λ out. outer_not_out (sym outer ∙ out);
          }
      by_label Out lab = absurd (in_it lab)

  module _ (m : ℕ → Option ℕ) (l : ℕ → Label) (one other : ℕ) (h : IsRemoved s m l one other) where
    abbrev new : State
    new = with_both s m l

    -- mates elsewhere are the old ones
    old_mate : (a e b : ℕ) → IsOutermost s a → IsElsewhere s one other a → m a ≡ Some e → IsMate new a e b → IsMate s a e b
    old_mate a e b is away has w =
        let old : s.mate a ≡ Some e = sym (h.kept a is away) ∙ has in let r = st.mates a e is old in
        subst (IsMate s a e) (joins_unique s.graph s.blossoms e a r.0 b r.1.joins w.joins r.1.different) r.1

    new_mate : (a e b : ℕ) → IsElsewhere s one other b → IsMate s a e b → IsMate new a e b
    new_mate a e b away w = record { edge = w.edge; joins = w.joins; different = w.different; tight = w.tight; outermost = w.outermost; back = h.kept b w.outermost away ∙ w.back }

    -- a label other than out is an old one, of a node elsewhere
    pub away_of : (a : ℕ) → IsOutermost s a → l a ≢ Out → IsElsewhere s one other a
    away_of a is in_it = ⊎_elim (λ p. absurd (in_it (h.gone a is p))) (λ w. w) (where_is s one other a)

    -- a node elsewhere, its mate and its parent stay in their tree
    outer_fits : (a : ℕ) → IsOutermost s a → l a ≡ Outer → (e b : ℕ) → m a ≡ Some e → IsMate new a e b → (l b ≡ Inner) × (depth b < depth a)
    outer_fits a is lab e b has w =
        let away = away_of a is (λ q. outer_not_out (sym lab ∙ q)) in
        let was : s.label a ≡ Outer = sym (h.stays a is away) ∙ lab in
        let old = old_mate a e b is away has w in
        let mate : s.mate a ≡ Some e = sym (h.kept a is away) ∙ has in
        let says = (st.labels a is).outer was e b mate old in
        let b_away = elsewhere_too s one other a b (outer_up a e b is was mate old) away in
        (h.stays b w.outermost b_away ∙ says.0, says.1)

    inner_fits : (a : ℕ) → IsOutermost s a → l a ≡ Inner → IsInner new depth a
    inner_fits a is lab =
        let away = away_of a is (λ q. inner_not_out (sym lab ∙ q)) in
        let was : s.label a ≡ Inner = sym (h.stays a is away) ∙ lab in
        let i = (st.labels a is).inner was in
        let up : up_of s a ≡ i.up = ap (λ k. far_end s (up_edge_by s k a) a) was ∙ ap (λ o. far_end s o a) i.parent
        ∙ other_node_joins s.graph s.blossoms i.edge a i.up i.joins (deeper_differs depth a i.up i.falls) in
        let up_away = elsewhere_too s one other a i.up (root_up s depth nested st a i.up is i.up_is up) away in
        let child_away = elsewhere_too s one other a i.child (mates_together a i.child_edge i.child is (λ q. inner_not_out (sym was ∙ q)) i.mate i.is_mate).same away in
        let up_outer = h.stays i.up i.up_is up_away ∙ i.up_outer in
        let mate = h.kept a is away ∙ i.mate in
        let is_mate = new_mate a i.child_edge i.child child_away i.is_mate in
        let child_outer = h.stays i.child i.is_mate.outermost child_away ∙ i.child_outer in
        search (rules, i, up_outer, mate, is_mate, child_outer)

    -- the mate of a node elsewhere is elsewhere
    out_fits : (a : ℕ) → IsOutermost s a → l a ≡ Out → (e b : ℕ) → m a ≡ Some e → IsMate new a e b → l b ≡ Out
    out_fits a is lab e b has w = ⊎_elim (h.gone b w.outermost) (λ away. h.stays b w.outermost away ∙ outside (s.label b) (together away)) (where_is s one other b)
      where
        turned : IsMate new b e a
        turned = record { edge = w.edge; joins = joins_turned s.graph s.blossoms e a b w.joins; different = λ q. w.different (sym q); tight = w.tight; outermost = is; back = has }

        together : IsElsewhere s one other b → s.label b ≢ Out → ⊥
        together away in_it =
            let old = old_mate b e a w.outermost away w.back turned in
            let both = mates_together b e a w.outermost in_it (sym (h.kept b w.outermost away) ∙ w.back) old in
            both.in_tree (sym (h.stays a is (elsewhere_too s one other b a both.same away)) ∙ lab)

        outside : (k : Label) → (k ≢ Out → ⊥) → k ≡ Out
        outside k never = grind (arith, never)

    -- what is exposed was so before
    pub was_exposed : (a : ℕ) → m a ≡ None → s.mate a ≡ None
    was_exposed a free = grind (arith, h.seen a, h.one_has, h.other_has)

    pub removed_state : IsSearchState new depth
    removed_state = record {
      rings = st.rings;
      tight_rings = tight_rings s new (λ e t. record { edge = t.edge; tight = t.tight }) s.blossoms st.tight_rings;
      slacks = st.slacks;
      duals = st.duals;
      mates = λ a e is has. let r = h.mates a e is has in (r.0, search (rules, r.1));
      parity = λ v w iv iw ev ew. st.parity v w iv iw (was_exposed (outermost s.blossoms v) ev) (was_exposed (outermost s.blossoms w) ew);
      labels = λ a is. record { outer = outer_fits a is; inner = inner_fits a is; out = out_fits a is };
    }

    -- the roots of the trees that stay
    pub still_root : (a : ℕ) → IsRoot new a → IsRoot s a
    still_root a r =
        let away = away_of a r.outermost (λ q. outer_not_out (sym r.outer ∙ q)) in
        record { outermost = r.outermost; outer = sym (h.stays a r.outermost away) ∙ r.outer; exposed = was_exposed a r.exposed }

    still_trees : AreTrees new (root_of s)
    still_trees = record {
      root = λ a r. root_self s depth nested st a (still_root a r);
      step = λ a e b is in_it b_is b_in way number joins ne.
          let same = h.stays a is (away_of a is in_it) in let mate = h.kept a is (away_of a is in_it) in
          let b_same = h.stays b b_is (away_of b b_is b_in) in
          (roots_are_trees s depth nested st).step a e b is (λ q. in_it (same ∙ q)) b_is (λ q. b_in (b_same ∙ q)) (grind arith) number joins ne;
    }

    pub roots_stay : (a : ℕ) → IsOutermost s a → l a ≢ Out → root_of new a ≡ root_of s a
    roots_stay a is in_it = tree_root new depth nested removed_state (root_of s) still_trees a is in_it
