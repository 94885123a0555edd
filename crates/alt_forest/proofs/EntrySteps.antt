-- Edges are given their moments one by one: those at a vertex, and those at each of some vertices.
use Rattle.graph_theory.proofs.Common.{◌≡◌, ◌≢◌, ℕ, ◌+◌, ◌<◌, ◌≤◌, true, false, eqb, List, [], ◌∷◌, length, get_or, drop, Option, sym, ap, ◌∙◌, subst}
use Rattle.graph_theory.proofs.Common.{arith, ℤ, eqb-true, eqb-false, both_ways, Multigraph, IsEdgeNumber, edge_of, edges_around, touches, around-has, holds_at, holds_place, nat_tests}
use Rattle.graph_theory.specs.declared.edge.Edge.{Edge as GraphEdge}
use Rattle.std.proofs.lemmas.List.{drop_all}
use Rattle.blossom_arena.proofs.Lists.{by_test}
use Rattle.search_heap.specs.declared.item.Item.TheVariants.{Edge}
use Rattle.search_heap.specs.Moments.{Moments, moment_of, entry}
use Rattle.alt_forest.specs.declared.search.Search.{Search}
use Rattle.alt_forest.specs.State.{State}
use Rattle.alt_forest.specs.Searches.{state_of}
use Rattle.alt_forest.specs.Entries.{NeedsMoment, IsEntered, IsQueued, IsQueuedBut, ends_looked, touches_any}

-- a queue that has the same for an edge gives it what it needs just so
pub entered_same : (s : State) (clock : ℤ) (q r : Moments) (e : ℕ) → moment_of r (Edge e) ≡ moment_of q (Edge e) → IsEntered s clock q e → IsEntered s clock r e
entered_same s clock q r e same h = subst (NeedsMoment s clock e) (sym same) h

-- an edge more of a list
pub entered_next : (s : State) (clock : ℤ) (q r : Moments) (xs : List ℕ) (k e : ℕ) → e ≡ get_or xs k 0
    → ((i : ℕ) → i < k → IsEntered s clock q (get_or xs i 0)) → IsEntered s clock r e → ((d : ℕ) → d ≢ e → moment_of r (Edge d) ≡ moment_of q (Edge d))
    → (i : ℕ) → i < k + 1 → IsEntered s clock r (get_or xs i 0)
entered_next s clock q r xs k e is before here others i low = by_test (eqb (get_or xs i 0) e)
    (λ t. subst (IsEntered s clock r) (sym (eqb-true (get_or xs i 0) e t)) here)
    (λ t. let ne : get_or xs i 0 ≢ e = eqb-false (get_or xs i 0) e t in
    let earlier : i ≢ k = λ q. ne (ap (λ j. get_or xs j 0) q ∙ sym is) in
    entered_same s clock q r (get_or xs i 0) (others (get_or xs i 0) ne) (before i (omega (arith, low, earlier))))

pub others_next : (g : Multigraph) (v : ℕ) (first q r : Moments) (e : ℕ) → touches (edge_of g e) v ≡ true
    → ((d : ℕ) → IsEdgeNumber g d → touches (edge_of g d) v ≡ false → moment_of q (Edge d) ≡ moment_of first (Edge d))
    → ((d : ℕ) → d ≢ e → moment_of r (Edge d) ≡ moment_of q (Edge d))
    → (d : ℕ) → IsEdgeNumber g d → touches (edge_of g d) v ≡ false → moment_of r (Edge d) ≡ moment_of first (Edge d)
others_next g v first q r e touched before others d is missed = others d (λ p. both_ways (touches (edge_of g e) v) (ap (λ x. touches (edge_of g x) v) (sym p) ∙ missed) touched)
    ∙ before d is missed

-- what holds of the edges at a vertex by their places holds of them all
pub by_places : (P : ℕ → Type 0) (g : Multigraph) (v : ℕ) → ((i : ℕ) → i < length (edges_around g v) → P (get_or (edges_around g v) i 0)) → (e : ℕ) → IsEdgeNumber g e
    → touches (edge_of g e) v ≡ true → P e
by_places P g v h e is touched =
    let at = holds_place (edges_around g v) e (around-has g v e is touched) in
    subst P at.2 (h at.0 at.1)

-- an edge that no vertex of a longer list touches
touches_more : (v : ℕ) (vs : List ℕ) (e : GraphEdge) → touches e v ≡ false → touches_any vs e ≡ false → touches_any (v ∷ vs) e ≡ false
touches_more v vs e missed none = grind (arith, nat_tests)

-- an edge that none of some vertices touches
pub missed_at : (vs : List ℕ) (k : ℕ) (e : GraphEdge) → k < length vs → touches_any vs e ≡ false → touches e (get_or vs k 0) ≡ false
missed_at vs k e low none = let has = holds_at vs k 0 low in grind (arith, nat_tests)

-- how many edges are looked at from one vertex: none where an inner node holds it
pub looked_most : (s : State) (v : ℕ) → ends_looked s (v ∷ []) ≤ length (edges_around s.graph v)
looked_most s v = grind arith

pub looked_next : (s : State) (v : ℕ) (vs : List ℕ) → ends_looked s (v ∷ vs) ≡ ends_looked s (v ∷ []) + ends_looked s vs
looked_next s v vs = omega arith

-- the edges at a vertex more are entered
pub vertex_entered : (s r : Search) (v : ℕ) (vs : List ℕ) → r ≡ record s { queue = r.queue } → IsQueuedBut s (v ∷ vs)
    → ((e : ℕ) → IsEdgeNumber s.graph e → touches (edge_of s.graph e) v ≡ true → IsEntered (state_of s) s.clock r.queue e)
    → ((e : ℕ) → IsEdgeNumber s.graph e → touches (edge_of s.graph e) v ≡ false → moment_of r.queue (Edge e) ≡ moment_of s.queue (Edge e))
    → r.queue.blossoms ≡ s.queue.blossoms → IsQueuedBut r vs
vertex_entered s r v vs rest h here others blossoms = subst (λ (x : Search). IsQueuedBut x vs) (sym rest) (record {
  low = h.low;
  high = h.high;
  edges = λ e is none. by_test (touches (edge_of s.graph e) v)
      (λ t. here e is t)
      (λ t. entered_same (state_of s) s.clock s.queue r.queue e (others e is t) (h.edges e is (touches_more v vs (edge_of s.graph e) t none)));
  blossoms = λ b name is lab. ap (λ (xs : List (Option ℤ)). entry xs b) blossoms ∙ h.blossoms b name is lab;
  tree = h.tree;
})

-- where all of them have been looked at
pub but_none_queued : (s : Search) (k : ℕ) (vs : List ℕ) → length vs ≤ k → IsQueuedBut s (drop k vs) → IsQueued s
but_none_queued s k vs all h =
    let edges = λ (e : ℕ) (is : IsEdgeNumber s.graph e). h.edges e is (ap (λ xs. touches_any xs (edge_of s.graph e)) (drop_all k vs all)) in
    record { low = h.low; high = h.high; edges = edges; blossoms = h.blossoms; idle_clock = λ n. absurd (h.tree n); empty = λ n item. absurd (h.tree n) }
