-- How many ends of edges there are at the vertices that have to be looked at anew.
use Rattle.alt_forest.proofs.Common.{◌≡◌, ◌≢◌, ℕ, ◌+◌, ◌*◌, ◌≤◌, Bool, true, false, cond, [], ◌∷◌, length, Option, refl, sym, ap, ap₂, ◌∙◌, subst}
use Rattle.alt_forest.proofs.Common.{arith, ℤ, ◌≤ℤ◌, pos, ◌*ℤ◌, ◌-ℤ◌, both_ways, Multigraph, edge_of, edges_around, other_end, holds, sum_to, edge_of_within}
use Rattle.alt_forest.proofs.Common.{other_end-within, is_vertex, outermost, Outer, by_test, range_vertex, HasShape, is_given, state_of, all_ends, weigh_less, only-member as only_one}
use Rattle.alt_forest.specs.declared.search.Search.{Search}
use Rattle.search_keys.specs.declared.bounds.EventBounds.{EventBounds}
use Rattle.search_keys.specs.Bounds.{HasHints, hint_of, key_of, reach}
use Rattle.search_keys.specs.Looks.{is_stale, is_stale_at, stale_ends}
use Rattle.search_keys.proofs.Gives.{fresh_parts, fresh_from, gives_parts, gives_from, key_has}

-- the ends of edges at the vertices that pass a test
abbrev ends_by : (ℕ → Bool) → Multigraph → ℕ
ends_by p g = sum_to (λ i. cond (p (i + 1)) (length (edges_around g (i + 1))) 0) g.vertices

-- no more where a test is narrower
ends_fewer : (g : Multigraph) (p q : ℕ → Bool) → ((v : ℕ) → is_vertex g.vertices v ≡ true → q v ≡ true → p v ≡ true) → ends_by q g ≤ ends_by p g
ends_fewer g p q within = omega (arith, weigh_less g p q g.vertices [] tt (λ v h. absurd (none v h)) (λ v h. absurd (none v h)) (λ v h. absurd (none v h)) within)
  where
    none : (v : ℕ) → holds [] v ≡ true → ⊥
    none v h = both_ways false refl h

-- all of them together are no more than the ends of all edges
pub stale_most : (s : Search) (b : EventBounds) → HasShape s → stale_ends s b ≤ 2 * length s.graph.edges
stale_most s b h = omega (arith, ends_fewer s.graph (λ _. true) (is_stale_at s b) (λ v is e. refl), all_ends s.graph h.graph.graph.ends)

-- what is stale after was so before
was_stale : (s t : Search) (b c : EventBounds) → ((v : ℕ) → is_vertex s.graph.vertices v ≡ true → is_stale_at s b v ≡ false → is_stale_at t c v ≡ false)
    → (v : ℕ) → is_vertex s.graph.vertices v ≡ true → is_stale_at t c v ≡ true → is_stale_at s b v ≡ true
was_stale s t b c still v vertex now = by_test (is_stale_at s b v) (λ e. e) (λ e. absurd (both_ways (is_stale_at t c v) (still v vertex e) now))

-- no more of them where each vertex that needn't be looked at anew needn't be after
pub stale_fewer : (s t : Search) (b c : EventBounds) → t.graph ≡ s.graph
    → ((v : ℕ) → is_vertex s.graph.vertices v ≡ true → is_stale_at s b v ≡ false → is_stale_at t c v ≡ false)
    → stale_ends t c ≤ stale_ends s b
stale_fewer s t b c same still =
    omega (arith, ends_fewer s.graph (is_stale_at s b) (is_stale_at t c) (was_stale s t b c still), ap (ends_by (is_stale_at t c)) same)

-- and as many fewer as there are at a vertex which had to be
pub stale_less : (s t : Search) (b c : EventBounds) (v : ℕ) → t.graph ≡ s.graph
    → ((a : ℕ) → is_vertex s.graph.vertices a ≡ true → is_stale_at s b a ≡ false → is_stale_at t c a ≡ false)
    → is_vertex s.graph.vertices v ≡ true → is_stale_at s b v ≡ true → is_stale_at t c v ≡ false
    → stale_ends t c + length (edges_around s.graph v) ≤ stale_ends s b
stale_less s t b c v same still vertex was now =
    let less = weigh_less s.graph (is_stale_at s b) (is_stale_at t c) s.graph.vertices (v ∷ []) (refl, tt)
    (λ a h. subst (λ (x : ℕ). is_vertex s.graph.vertices x ≡ true) (only_one v a h) vertex)
    (λ a h. subst (λ (x : ℕ). is_stale_at s b x ≡ true) (only_one v a h) was)
    (λ a h. subst (λ (x : ℕ). is_stale_at t c x ≡ false) (only_one v a h) now)
    (was_stale s t b c still) in
    let moved : stale_ends t c ≡ ends_by (is_stale_at t c) s.graph = ap (ends_by (is_stale_at t c)) same in
    omega (arith, less, moved)

-- Outer nodes stay outer, and the vertices in them keep their reach; what lies in another node than such a vertex does so after.
pub record KeepsOuter (s t : Search) : Type 0 where
  pub graph : t.graph ≡ s.graph
  pub weights : t.weights ≡ s.weights
  pub outer : (v : ℕ) → is_vertex s.graph.vertices v ≡ true → (state_of s).label (outermost s.arena.blossoms v) ≡ Outer → (state_of t).label (outermost t.arena.blossoms v) ≡ Outer
  pub reach : (v : ℕ) → is_vertex s.graph.vertices v ≡ true → (state_of s).label (outermost s.arena.blossoms v) ≡ Outer → reach (state_of t) t.clock v ≡ reach (state_of s) s.clock v
  pub apart : (v u : ℕ) → is_vertex s.graph.vertices v ≡ true → is_vertex s.graph.vertices u ≡ true → (state_of s).label (outermost s.arena.blossoms v) ≡ Outer
      → outermost s.arena.blossoms v ≢ outermost s.arena.blossoms u → outermost t.arena.blossoms v ≢ outermost t.arena.blossoms u

-- then a vertex that keeps its edge and its key needn't be looked at anew where it needn't before
pub stale_still : (s t : Search) (b c : EventBounds) → HasShape s → HasHints s.graph b → KeepsOuter s t
    → ((v : ℕ) → is_vertex s.graph.vertices v ≡ true → hint_of c v ≡ hint_of b v)
    → ((v : ℕ) → is_vertex s.graph.vertices v ≡ true → key_of c v ≡ key_of b v)
    → (v : ℕ) → is_vertex s.graph.vertices v ≡ true → is_stale_at s b v ≡ false → is_stale_at t c v ≡ false
stale_still s t b c shape hints keeps hint key v vertex fresh =
    ap₂ (λ (e : ℕ) (k : Option ℤ). is_stale (state_of t) t.clock e v k) (hint v vertex) (key v vertex)
    ∙ ap (λ (g : Multigraph). is_stale (record (state_of t) { graph = g }) t.clock (hint_of b v) v (key_of b v)) keeps.graph
    ∙ fresh_from (record (state_of t) { graph = s.graph }) t.clock (hint_of b v) v (key_of b v) (λ k is.
    let gives = fresh_parts (state_of s) s.clock (hint_of b v) v (key_of b v) k is fresh in let far : ℕ = other_end (edge_of s.graph (hint_of b v)) v in
    let parts = gives_parts (state_of s) s.clock (hint_of b v) far v k gives in
    let range = other_end-within s.graph.vertices (edge_of s.graph (hint_of b v)) v
    (edge_of_within s.graph (hint_of b v) shape.graph.graph.ends (hints v vertex (key_has b v k is).0).0) in
    let there = range_vertex s.graph.vertices far range.0 range.1 in
    gives_from (record (state_of t) { graph = s.graph }) t.clock (hint_of b v) far v k
    (record { other = keeps.apart far v there vertex parts.0.outer parts.0.other; outer = keeps.outer far there parts.0.outer })
    (subst (λ (x : ℤ). x ≤ℤ k)
    (sym (ap₂ (λ (q : Bool) (x : ℤ). cond q (pos 2 *ℤ (edge_of s.graph (hint_of b v)).w) (pos 0) -ℤ x) (ap is_given keeps.weights) (keeps.reach far there parts.0.outer)))
    parts.1))

-- so no more have to be
pub stale_kept : (s t : Search) (b c : EventBounds) → HasShape s → HasHints s.graph b → KeepsOuter s t
    → ((v : ℕ) → is_vertex s.graph.vertices v ≡ true → hint_of c v ≡ hint_of b v)
    → ((v : ℕ) → is_vertex s.graph.vertices v ≡ true → key_of c v ≡ key_of b v)
    → stale_ends t c ≤ stale_ends s b
stale_kept s t b c shape hints keeps hint key = stale_fewer s t b c keeps.graph (stale_still s t b c shape hints keeps hint key)
