-- What the edge that gave a vertex its key, its hint, says of the vertex.
use Rattle.alt_forest.proofs.Common.{◌≡◌, ◌≢◌, ℕ, ◌+◌, ◌≤◌, ℤ, Bool, true, false, eqb, eqb-true, eqb-false, cond, arith, length, Option, Some, None, refl, sym, ap, ap₂, ◌∙◌, ⊎_elim}
use Rattle.alt_forest.proofs.Common.{both_ways, cases_eq}
use Rattle.alt_forest.proofs.Common.{sum_to-add, sum_to-at_one, sum_to-same, vertex_range, edges_around, around-has, is_vertex, outermost, Label, Outer, Inner, Out, NeedsMoment, IsSound}
use Rattle.alt_forest.proofs.Common.{state_of, joins_turned, nested_of}
use Rattle.alt_forest.proofs.Common.{some-member as some_length}
use Rattle.alt_forest.specs.declared.search.Search.{Search}
use Rattle.search_keys.specs.declared.bounds.EventBounds.{EventBounds}
use Rattle.search_keys.specs.Bounds.{HasHints, hint_of, key_of}
use Rattle.search_keys.specs.Looks.{is_stale, is_stale_at, stale_ends}
use Rattle.search_keys.proofs.Gives.{key_none}
use Rattle.search_keys.proofs.Least.{IsHintAt}
use Rattle.dual_change.proofs.Least.{outer_slack_even}

-- a vertex that is to be looked at anew has an edge
pub stale_degree : (s : Search) (b : EventBounds) (v : ℕ) → HasHints s.graph b → is_vertex s.graph.vertices v ≡ true → is_stale_at s b v ≡ true → 1 ≤ length (edges_around s.graph v)
stale_degree s b v hints is stale =
    let some : hint_of b v ≢ 0 = λ none. both_ways (is_stale_at s b v) (ap (is_stale (state_of s) s.clock (hint_of b v) v) (key_none b v none)) stale in
    let hint = hints v is some in
    some_length (edges_around s.graph v) (hint_of b v) (around-has s.graph v (hint_of b v) hint.0 hint.1)

-- where this vertex alone has got another key, no other is to be looked at anew that hadn't to be
pub still_fresh : (s : Search) (b c : EventBounds) (v : ℕ) → is_stale_at s c v ≡ false → ((a : ℕ) → a ≢ v → key_of c a ≡ key_of b a) → ((a : ℕ) → a ≢ v → hint_of c a ≡ hint_of b a)
    → (a : ℕ) → is_vertex s.graph.vertices a ≡ true → is_stale_at s b a ≡ false → is_stale_at s c a ≡ false
still_fresh s b c v fresh keys hints a is was = ⊎_elim
    (λ same. ap (is_stale_at s c) same ∙ fresh)
    (λ other. ap₂ (λ (e : ℕ) (k : Option ℤ). is_stale (state_of s) s.clock e a k) (hints a other) (keys a other) ∙ was)
    (cases_eq a v)

-- so as many fewer ends of edges are to be looked at as there are at this vertex, if it had to be
pub stale_exact : (s : Search) (b c : EventBounds) (v : ℕ) → is_vertex s.graph.vertices v ≡ true → is_stale_at s b v ≡ true → is_stale_at s c v ≡ false
    → ((a : ℕ) → a ≢ v → key_of c a ≡ key_of b a) → ((a : ℕ) → a ≢ v → hint_of c a ≡ hint_of b a) → stale_ends s c + length (edges_around s.graph v) ≡ stale_ends s b
stale_exact s b c v is was fresh keys hints =
    let degree : ℕ → ℕ = λ a. length (edges_around s.graph a) in let n : ℕ = s.graph.vertices in let range = vertex_range n v is in
    let here = sum_to-at_one degree v n range.0 range.1 in
    let both = sum_to-add (λ i. cond (is_stale_at s c (i + 1)) (degree (i + 1)) 0) (λ i. cond (eqb v (i + 1)) (degree (i + 1)) 0) n in
    let parts = sum_to-same (λ i. cond (is_stale_at s b (i + 1)) (degree (i + 1)) 0)
    (λ i. cond (is_stale_at s c (i + 1)) (degree (i + 1)) 0 + cond (eqb v (i + 1)) (degree (i + 1)) 0) n
    (λ k low. term (is_stale_at s b (k + 1)) (is_stale_at s c (k + 1)) (eqb v (k + 1)) (degree (k + 1))
    (λ e. let at : v ≡ k + 1 = eqb-true v (k + 1) e in (ap (is_stale_at s b) (sym at) ∙ was, ap (is_stale_at s c) (sym at) ∙ fresh))
    (λ f.
    let ne : k + 1 ≢ v = λ p. eqb-false v (k + 1) f (sym p) in
    ap₂ (λ (e : ℕ) (x : Option ℤ). is_stale (state_of s) s.clock e (k + 1) x) (hints (k + 1) ne) (keys (k + 1) ne))) in
    omega (arith, here, both, parts)
  where
    term : (p q e : Bool) (d : ℕ) → (e ≡ true → (p ≡ true) × (q ≡ false)) → (e ≡ false → q ≡ p) → cond p d 0 ≡ cond q d 0 + cond e d 0
    term p q true d one other = let both = one refl in omega (arith, ap (λ t. cond t d 0) both.0, ap (λ t. cond t d 0) both.1)
    term p q false d one other = omega (arith, ap (λ t. cond t d 0) (other refl))

-- the hint of a vertex needs a moment where its node isn't inner
pub hint_comes : (s : Search) (e v : ℕ) (m : ℤ) → IsSound s → IsHintAt s e v m → (state_of s).label (outermost s.arena.blossoms v) ≢ Inner
    → NeedsMoment (state_of s) s.clock e None → ⊥
hint_comes s e v m sound h ne none = by_label ((state_of s).label (outermost s.arena.blossoms v)) refl
  where
    no_moment : (x : ℤ) → (let o : Option ℤ = None in o) ≡ Some x → ⊥
    no_moment x q = absurd (cc)

    by_label : (l : Label) → (state_of s).label (outermost s.arena.blossoms v) ≡ l → ⊥
    by_label Inner lab = ne lab
    by_label Out lab = no_moment _ (none.to_out (outermost s.arena.blossoms h.far) (outermost s.arena.blossoms v)
        (joins_turned s.graph s.arena.blossoms e (outermost s.arena.blossoms v) (outermost s.arena.blossoms h.far) h.joins) h.outer lab)
    by_label Outer lab =
        let half = outer_slack_even (state_of s) sound.depth e (outermost s.arena.blossoms v) (outermost s.arena.blossoms h.far) sound.shape.graph.graph (nested_of s sound.shape) sound.state
        h.number h.joins lab h.outer in
        no_moment _ (none.between (outermost s.arena.blossoms v) (outermost s.arena.blossoms h.far) half.0 h.joins (λ q. h.apart (sym q)) lab h.outer half.1)
