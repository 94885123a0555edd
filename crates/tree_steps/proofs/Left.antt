-- What a step leaves of the queue of a search and of its bounds, where it leaves the vertices that it doesn't note.
use Rattle.alt_forest.proofs.Common.{◌-ℤ◌, ap₂, ◌≡◌, ◌∙◌, ◌≤ℤ◌, ℕ, ℤ, pos, true, List, Some, sym, ap, subst, or_parts, Multigraph, IsEdgeNumber, edge_of}
use Rattle.alt_forest.proofs.Common.{holds, NUMBER_LIMIT, is_vertex, names_of, u_vertex, v_vertex, Moments, entry, moment_of, NeedsMoment, IsBlossomEntered, IsQueued, IsQueuedBut, HasNoTree}
use Rattle.alt_forest.proofs.Common.{touches_any, IsSound, state_of}
use Rattle.alt_forest.specs.declared.search.Search.{Search}
use Rattle.search_heap.specs.declared.item.Item.TheVariants.{Edge as OfEdge}
use Rattle.search_keys.specs.declared.bounds.EventBounds.{EventBounds}
use Rattle.search_keys.specs.Bounds.{HasPlaces, IsBounding, IsBoundingBut, bound_of}
use Rattle.search_keys.proofs.Kept.{bounding_kept}
use Rattle.search_keys.proofs.Near.{near_same}
use Rattle.tree_steps.specs.Left.{Leaves}
use Rattle.tree_steps.proofs.Needs.{Stays, needs_still}

-- f is the search before the step, and k that after it
module _ {f k : Search} {noted : List ℕ} (h : IsSound f) (x : Leaves (state_of f) (state_of k) noted) (clock : k.clock ≡ f.clock) where
  -- the edges that it leaves have the moments that they need
  pub left_queued : IsQueued f → k.queue.edges ≡ f.queue.edges → ((b : ℕ) → holds (names_of k.arena.blossoms) b ≡ true → IsBlossomEntered (state_of k) f.clock k.queue b)
      → (HasNoTree (state_of k) → ⊥) → IsQueuedBut k noted
  left_queued q same blossoms tree = record {
    low = subst (λ (z : ℤ). pos 0 ≤ℤ z) (sym clock) q.low;
    high = subst (λ (z : ℤ). z ≤ℤ NUMBER_LIMIT) (sym clock) q.high;
    edges = λ d is out.
        let is_f : IsEdgeNumber f.graph d = subst (λ (g : Multigraph). IsEdgeNumber g d) x.graph is in
        let u : ℕ = (edge_of f.graph d).u in let v : ℕ = (edge_of f.graph d).v in
        let u_is = u_vertex f.graph d h.shape.graph.graph.ends is_f in
        let v_is = v_vertex f.graph d h.shape.graph.graph.ends is_f in
        let parts = or_parts (holds noted u) (holds noted v) (ap (λ (g : Multigraph). touches_any noted (edge_of g d)) (sym x.graph) ∙ out) in
        let stays : Stays (state_of f) (state_of k) d =
        record { graph = x.graph; slack = x.slack d is_f; u = x.ends u u_is parts.0; v = x.ends v v_is parts.1; together = x.together u v u_is v_is parts.1 } in
        subst (λ (z : ℤ). NeedsMoment (state_of k) z d (entry k.queue.edges d)) (sym clock) (subst (λ es. NeedsMoment (state_of k) f.clock d (entry es d)) (sym same)
        (needs_still (state_of f) (state_of k) f.clock d (λ m. moment_of f.queue (OfEdge d) ≡ Some m) stays (q.edges d is_f)));
    blossoms = λ b name. subst (λ (z : ℤ). IsBlossomEntered (state_of k) z k.queue b) (sym clock) (blossoms b name);
    tree = tree;
  }

  -- and the vertices what their bounds say, where only moments of blossoms change
  pub left_bounding : (b c : EventBounds) → IsBounding f b → k.weights ≡ f.weights → k.queue ≡ f.queue → HasPlaces f.graph c → c ≡ record b { moments = c.moments }
      → ((v : ℕ) → is_vertex f.graph.vertices v ≡ true → bound_of c.moments v ≡ bound_of b.moments v)
      → ((a : ℕ) → holds (names_of k.arena.blossoms) a ≡ true → IsBlossomEntered (state_of k) f.clock c.moments a) → IsBoundingBut k c noted
  left_bounding b c was weights queue places only vertices blossoms = bounding_kept f k b c noted h.shape was x.graph weights
      (subst (λ (z : ℤ). pos 0 ≤ℤ z) (sym clock) was.low) (subst (λ (z : ℤ). z ≤ℤ NUMBER_LIMIT) (sym clock) was.high)
      (near_same (state_of f) (state_of k) f.clock k.clock x.graph clock x.sum was.near) places only
      (λ v is out. record {
        label = x.ends v is out;
        out = λ e. x.sum v is;
        outer = λ e. ap₂ (λ (y z : ℤ). y -ℤ z) (x.sum v is) clock;
        apart = λ u u_is outer off at. off (x.together u v u_is is out at);
      })
      (λ v is out. vertices v is)
      (λ a name. subst (λ (z : ℤ). IsBlossomEntered (state_of k) z c.moments a) (sym clock) (blossoms a name))
      (λ item. ap (λ (q : Moments). moment_of q item) queue ∙ was.unused item)

-- where only the queue changes, twice
pub only_queue : (f k l : Search) → k ≡ record f { queue = k.queue } → l ≡ record k { queue = l.queue } → l ≡ record f { queue = l.queue }
only_queue f k l first second = second ∙ ap (λ (x : Search). let y : Search = record x { queue = l.queue } in y) first
