-- Where no tree stands there need be no bounds, and none is stale.
use Rattle.std.specs.Prelude.{◌/◌}
use Rattle.alt_forest.proofs.Common.{◌≡◌, ◌∙◌, ℕ, zero, suc, ◌+◌, ◌-◌, ◌<◌, ◌≤◌, ℤ, pos, neg_ℤ, ◌*ℤ◌, ◌≤ℤ◌, Bool, true, false, cond, length, [], Option, None, replicate, refl, sym, ap}
use Rattle.alt_forest.proofs.Common.{subst, arith, ints, ⊎_elim, vec_len, get_or-replicate, get_or_past, length-replicate, cases_lt, Multigraph, edges_around, sum_to-same, sum_to-zero}
use Rattle.alt_forest.proofs.Common.{WEIGHT_LIMIT, dual_at, is_vertex, outermost, Label, Out, Moments, no_moments, state_of, dual_sum, node_limit, outer_not_out, inner_not_out}
use Rattle.alt_forest.proofs.Fresh.{alone_dual_sum}
use Rattle.alt_forest.specs.declared.search.Search.{Search}
use Rattle.search_keys.specs.declared.bounds.EventBounds.{EventBounds}
use Rattle.search_keys.specs.Bounds.{HasNearSums, HasPlaces, ComesUp, IsBounding, bound_of, hint_of, key_of}
use Rattle.search_keys.specs.Looks.{is_stale, is_stale_at, stale_ends}
use Rattle.search_keys.proofs.Gives.{key_none as no_key}
use Rattle.mwpm_engine.specs.Passes.{IsReady}

-- what is cleared has its places
pub cleared_places : (g : Multigraph) (a b : EventBounds) → b.moments ≡ no_moments (length a.moments.edges) (length a.moments.blossoms) → vec_len b.hints ≡ vec_len a.hints
    → b.keys ≡ a.keys → HasPlaces g a → HasPlaces g b
cleared_places g a b moments hints keys h = record {
  edges = ap (λ (q : Moments). length q.edges) moments ∙ length-replicate (length a.moments.edges) (let none : Option ℤ = None in none) ∙ h.edges;
  nodes = ap (λ (q : Moments). length q.blossoms) moments ∙ length-replicate (length a.moments.blossoms) (let none : Option ℤ = None in none) ∙ h.nodes;
  hints = hints ∙ h.hints;
  keys = ap vec_len keys ∙ h.keys;
}

no_bound : (edges nodes a : ℕ) → bound_of (no_moments edges nodes) a ≡ None
no_bound edges nodes zero = refl
no_bound edges nodes (suc k) = ⊎_elim
    (λ (low : k < nodes). get_or-replicate nodes k None None low)
    (λ (high : nodes ≤ k). get_or_past (replicate nodes None) k None (omega (arith, high, length-replicate nodes (let none : Option ℤ = None in none))))
    (cases_lt k nodes)

comes_none : (l : Label) (sum clock : ℤ) (key moment : Option ℤ) → l ≡ Out → key ≡ None → moment ≡ None → ComesUp l sum clock key moment
comes_none l sum clock key moment out none is = subst (λ x. ComesUp x sum clock key moment) (sym out) (subst (λ k. ComesUp Out sum clock k moment) (sym none) is)

-- where no blossom holds a vertex and the clock is 0 its sum is its dual, and so in the range in which a pass begins
pub near_begun : (s : Search) → s.arena.blossoms ≡ [] → s.clock ≡ pos 0
    → ((v : ℕ) → is_vertex s.graph.vertices v ≡ true → (neg_ℤ WEIGHT_LIMIT ≤ℤ dual_at s.arena.duals v) × (dual_at s.arena.duals v ≤ℤ (pos 3 *ℤ WEIGHT_LIMIT)))
    → HasNearSums (state_of s) s.clock
near_begun s alone clock in_range = record {
  low = λ v is. let sum = alone_dual_sum (state_of s) (dual_at s.arena.duals v) v alone refl in let own = in_range v is in omega (arith, ints, sum, own.0, clock);
  high = λ v is. let sum = alone_dual_sum (state_of s) (dual_at s.arena.duals v) v alone refl in let own = in_range v is in omega (arith, ints, sum, own.1, clock);
}

pub begins_bounding : (s : Search) (b : EventBounds) (edges nodes : ℕ) → IsReady s → HasNearSums (state_of s) s.clock → HasPlaces s.graph b → b.moments ≡ no_moments edges nodes
    → ((v : ℕ) → hint_of b v ≡ 0) → IsBounding s b
begins_bounding s b edges nodes ready near places moments none = record {
  low = ready.event_times.low;
  high = ready.event_times.high;
  near = near;
  places = places;
  hints = λ v vertex some. absurd (some (none v));
  keys = λ e v u w to new outer other. outer_not_out (sym outer ∙ ready.labels (outermost s.arena.blossoms v));
  vertices = λ v vertex new. comes_none ((state_of s).label (outermost s.arena.blossoms v)) (dual_sum (state_of s) v) s.clock (key_of b v) (bound_of b.moments v)
      (ready.labels (outermost s.arena.blossoms v)) (no_key b v (none v)) (ap (λ (q : Moments). bound_of q v) moments ∙ no_bound edges nodes v);
  blossoms = λ a name is lab. inner_not_out (sym lab ∙ ready.labels a);
  unused = ready.event_times.empty (λ a is. ready.labels a);
}

pub none_stale : (s : Search) (b : EventBounds) → ((v : ℕ) → hint_of b v ≡ 0) → stale_ends s b ≡ 0
none_stale s b none = sum_to-same (λ i. cond (is_stale_at s b (i + 1)) (length (edges_around s.graph (i + 1))) 0) (λ _. 0) s.graph.vertices
    (λ i low. ap (λ (t : Bool). cond t (length (edges_around s.graph (i + 1))) 0) (fresh (i + 1)))
    ∙ sum_to-zero s.graph.vertices
  where
    fresh : (v : ℕ) → is_stale_at s b v ≡ false
    fresh v = ap (λ (k : Option ℤ). is_stale (state_of s) s.clock (hint_of b v) v k) (no_key b v (none v))

-- what is made has its places
pub made_places : (g : Multigraph) (b : EventBounds) (vertices nodes : ℕ) → b.moments ≡ no_moments 0 nodes → nodes ≡ node_limit g.vertices → vec_len b.hints ≡ vertices + 1
    → vec_len b.keys ≡ vertices + 1 → vertices ≡ g.vertices → HasPlaces g b
made_places g b vertices nodes moments limit hints keys same = record {
  edges = ap (λ (q : Moments). length q.edges) moments;
  nodes = ap (λ (q : Moments). length q.blossoms) moments ∙ length-replicate nodes (let none : Option ℤ = None in none) ∙ limit;
  hints = hints ∙ ap (λ n. n + 1) same;
  keys = keys ∙ ap (λ n. n + 1) same;
}

-- the numbers of nodes are up to that of the vertices and the most blossoms
pub made_limit : (vertices less all : ℕ) → less ≡ vertices - 1 → vertices ≡ all → vertices + less / 2 ≡ node_limit all
made_limit vertices less all is same = ap (λ k. vertices + k / 2) is ∙ ap node_limit same
