use Rattle.alt_forest.proofs.Common.{◌≡◌, ◌∙◌, ℕ, None, true, eqb, sym, ap, subst, eqb-true, eqb-false, holds, is_vertex, names_of, outermost, by_test, Label, with_moment}
use Rattle.alt_forest.proofs.Common.{IsOutermost, dual_sum, state_of, blossom_set, blossom_other}
use Rattle.search_heap.specs.declared.item.Item.TheVariants.{Blossom}
use Rattle.search_keys.specs.declared.bounds.EventBounds.{EventBounds}
use Rattle.search_keys.specs.Bounds.{ComesUp, IsBounding, bound_of, key_of}
use Rattle.search_keys.proofs.Lowered.{places_with}
use Rattle.search_keys.proofs.bounds.EventBounds.drop_idle.Goals as goal

pub returns-clause-vertex_keys : goal.returns-clause-vertex_keys
returns-clause-vertex_keys c =
    let s = c.args.search.now in let b = c.args.self.now in let a : ℕ = c.args.node in let h = c.requires.vertex_keys in
    let d : EventBounds = record b { moments = with_moment b.moments (Blossom a) None } in
    subst (IsBounding s) (sym c.remove.ensures) (record {
      low = h.low;
      high = h.high;
      near = h.near;
      places = places_with s.graph b a None h.places;
      hints = h.hints;
      keys = λ e v u w to unnoted outer apart. let k = h.keys e v u w to unnoted outer apart in record { key = k.key; has = k.has; low = k.low };
      vertices = λ v there unnoted. by_test (eqb v a)
          (λ t.
          let same : v ≡ a = eqb-true v a t in
          let inner = ap (λ (x : ℕ). (state_of s).label (outermost s.arena.blossoms x)) same ∙ c.requires.idle.vertex (subst (λ (x : ℕ). is_vertex s.graph.vertices x ≡ true) same there) in
          subst (λ (l : Label). ComesUp l (dual_sum (state_of s) v) s.clock (key_of d v) (bound_of d.moments v)) (sym inner) tt)
          (λ f. rw (blossom_other b.moments a v None (c.requires.low, c.requires.high) (eqb-false v a f)) (h.vertices v there unnoted));
      blossoms = λ x name outer inner. by_test (eqb x a)
          (λ t.
          let same : x ≡ a = eqb-true x a t in
          absurd (c.requires.idle.blossom (subst (λ (y : ℕ). holds (names_of s.arena.blossoms) y ≡ true) same name) (subst (IsOutermost (state_of s)) same outer)
          (sym (ap (state_of s).label same) ∙ inner)))
          (λ f. blossom_other b.moments a x None (c.requires.low, c.requires.high) (eqb-false x a f) ∙ h.blossoms x name outer inner);
      unused = h.unused;
    })

pub returns-clause-none : goal.returns-clause-none
returns-clause-none c = ap (λ (b : EventBounds). bound_of b.moments c.args.node) c.remove.ensures ∙ blossom_set c.args.self.now.moments c.args.node None (c.requires.low, c.requires.high)

pub returns-clause-others : goal.returns-clause-others
returns-clause-others c = λ a ne.
    ap (λ (b : EventBounds). bound_of b.moments a) c.remove.ensures ∙ blossom_other c.args.self.now.moments c.args.node a None (c.requires.low, c.requires.high) ne
