-- A state with other labels: a new root is planted, or all trees are cleared away.
use Rattle.graph_theory.proofs.Common.{◌≡◌, ◌≢◌, ◌⊎◌, ◌↔◌, ℕ, eqb, cond, Some, None, sym, ap, ◌∙◌, subst, ⊎_elim, inl, inr, cases_eq}
use Rattle.blossom_arena.proofs.Lists.{by_test}
use Rattle.blossom_arena.specs.declared.label.Label.{Label}
use Rattle.blossom_arena.specs.declared.label.Label.TheVariants.{Outer, Inner, Out}
use Rattle.alt_forest.specs.State.{State, IsOutermost, IsMate, IsInner, FitsLabel, IsSearchState}
use Rattle.alt_forest.specs.Trees.{IsRoot}
use Rattle.alt_forest.specs.Searches.{put}
use Rattle.alt_forest.proofs.Tight.{tight_rings}
pub use Rattle.search_tables.proofs.Kept.{some_not_none}
pub use Rattle.search_tables.proofs.Updates.{put_here, put_other}

abbrev pub with_labels : State → (ℕ → Label) → State
with_labels s label = record s { label = label }

-- labels that differ
pub outer_not_inner : {A : Type 0} → Outer ≡ Inner → A
outer_not_inner e = absurd (cc)

pub outer_not_out : {A : Type 0} → Outer ≡ Out → A
outer_not_out e = absurd (cc)

pub inner_not_out : {A : Type 0} → Inner ≡ Out → A
inner_not_out e = absurd (cc)

-- mates don't speak of labels
pub mate_with : (s : State) (label : ℕ → Label) (a e b : ℕ) → IsMate s a e b → IsMate (with_labels s label) a e b
mate_with s label a e b m = assumption

pub mate_without : (s : State) (label : ℕ → Label) (a e b : ℕ) → IsMate (with_labels s label) a e b → IsMate s a e b
mate_without s label a e b m = assumption

pub inner_with : (s : State) (label : ℕ → Label) (depth : ℕ → ℕ) (a : ℕ) → (i : IsInner s depth a) → label i.up ≡ Outer → label i.child ≡ Outer
    → IsInner (with_labels s label) depth a
inner_with s label depth a i up child = record {
  edge = i.edge;
  up = i.up;
  parent = i.parent;
  is_edge = i.is_edge;
  joins = i.joins;
  tight = i.tight;
  up_is = i.up_is;
  up_outer = up;
  falls = i.falls;
  child_edge = i.child_edge;
  child = i.child;
  mate = i.mate;
  is_mate = mate_with s label a i.child_edge i.child i.is_mate;
  child_outer = child;
  rises = i.rises;
}

-- edges that are tight stay so
-- labels matter to the trees alone
pub relabelled : (s : State) (label : ℕ → Label) (depth : ℕ → ℕ) → IsSearchState s depth → ((a : ℕ) → IsOutermost s a → FitsLabel (with_labels s label) depth a)
    → IsSearchState (with_labels s label) depth
relabelled s label depth st fits = record {
  rings = st.rings;
  tight_rings = tight_rings s (with_labels s label) (λ e t. record { edge = t.edge; tight = t.tight }) s.blossoms st.tight_rings;
  slacks = st.slacks;
  duals = st.duals;
  mates = λ a e is has. let m = st.mates a e is has in (m.0, mate_with s label a e m.0 m.1);
  parity = st.parity;
  labels = fits;
}

-- where no node is in a tree
pub cleared : (s : State) (label : ℕ → Label) (depth : ℕ → ℕ) → IsSearchState s depth → ((a : ℕ) → label a ≡ Out) → IsSearchState (with_labels s label) depth
cleared s label depth st out = relabelled s label depth st (λ a is. record {
  outer = λ l. outer_not_out (sym l ∙ out a);
  inner = λ l. inner_not_out (sym l ∙ out a);
  out = λ l e b has m. out b;
})

-- a root more
module _ (s : State) (depth : ℕ → ℕ) (v : ℕ) (exposed : s.mate v ≡ None) (was_out : s.label v ≡ Out) where
  -- what has a mate is not the new root
  mated : (a e : ℕ) → s.mate a ≡ Some e → a ≢ v
  mated a e has same = some_not_none e (sym has ∙ ap s.mate same ∙ exposed)

  stays_outer : (a : ℕ) → s.label a ≡ Outer → put s.label v Outer a ≡ Outer
  stays_outer a l = by_test (eqb a v) (λ t. ap (λ q. cond q Outer (s.label a)) t) (λ t. ap (λ q. cond q Outer (s.label a)) t ∙ l)

  -- another label than that of a root is an old one
  was : (a : ℕ) → a ≢ v → put s.label v Outer a ≡ s.label a
  was a ne = put_other s.label v Outer a ne

  pub planted : IsSearchState s depth → IsSearchState (with_labels s (put s.label v Outer)) depth
  planted st = relabelled s (put s.label v Outer) depth st (λ a is. record {
    outer = λ l e b has m.
        let ne : a ≢ v = mated a e has in
        let old = (st.labels a is).outer (sym (was a ne) ∙ l) e b has (mate_without s (put s.label v Outer) a e b m) in
        (was b (mated b e m.back) ∙ old.0, old.1);
    inner = λ l.
        let ne : a ≢ v = λ same. outer_not_inner (sym (put_here s.label v Outer) ∙ ap (put s.label v Outer) (sym same) ∙ l) in
        let i = (st.labels a is).inner (sym (was a ne) ∙ l) in
        inner_with s (put s.label v Outer) depth a i (stays_outer i.up i.up_outer) (stays_outer i.child i.child_outer);
    out = λ l e b has m.
        let ne : a ≢ v = mated a e has in
        was b (mated b e m.back) ∙ (st.labels a is).out (sym (was a ne) ∙ l) e b has (mate_without s (put s.label v Outer) a e b m);
  })

  pub planted_roots : IsOutermost s v → (a : ℕ) → IsRoot (with_labels s (put s.label v Outer)) a ↔ (IsRoot s a ⊎ (a ≡ v))
  planted_roots v_is a = (
    λ r. ⊎_elim
        (λ same. inr same)
        (λ other. inl (record { outermost = r.outermost; outer = sym (was a other) ∙ r.outer; exposed = r.exposed }))
        (cases_eq a v),
    λ o. ⊎_elim
        (λ r. record { outermost = r.outermost; outer = stays_outer a r.outer; exposed = r.exposed })
        (λ same. record { outermost = subst (IsOutermost s) (sym same) v_is; outer = ap (put s.label v Outer) same ∙ put_here s.label v Outer; exposed = ap s.mate same ∙ exposed })
        o,
  )
