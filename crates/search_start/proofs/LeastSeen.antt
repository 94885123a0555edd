-- What holds of the edges at a vertex that a loop has seen so far.
use Rattle.alt_forest.proofs.Common.{◌≡◌, ◌∙◌, ℕ, ◌+◌, ◌<◌, ◌≤◌, Bool, true, false, eqb, List, [], length, get_or, sym, ap, arith, AllWithin, slice_index_or}
use Rattle.alt_forest.proofs.Common.{eqb-false, AllWithin-more, AllWithin-none, All-map, at_read, IsEdgeNumber, edge_of, touches, holds, around-has, holds_all, is_vertex, numbers_of}
use Rattle.alt_forest.proofs.Common.{HasShape, edges_around, incident_count, incidence_around}
use Rattle.alt_forest.specs.declared.search.Search.{Search}
use Rattle.search_tables.specs.declared.incident_edges.IncidentEdge.{IncidentEdge}

abbrev pub HaveSeen : (ℕ → Type 0) → List IncidentEdge → ℕ → Type 0
HaveSeen Q xs i = AllWithin (λ (p : IncidentEdge). Q p.edge) xs 0 i

-- one edge more
pub seen_one : (Q R : ℕ → Type 0) (xs : List IncidentEdge) (i : ℕ) (p : IncidentEdge) → i < length xs → p ≡ get_or xs i p → ((e : ℕ) → Q e → R e) → R p.edge
    → HaveSeen Q xs i → HaveSeen R xs (i + 1)
seen_one Q R xs i p low is still here seen =
    AllWithin-more (λ (x : IncidentEdge). R x.edge) xs 0 i (λ k d least b. still (get_or xs k d).edge (seen k d least b)) (at_read xs (λ (x : IncidentEdge). R x.edge) i p low is here)

pub seen_first : (Q : ℕ → Type 0) (xs : List IncidentEdge) (p : IncidentEdge) → 0 < length xs → p ≡ get_or xs 0 p → Q p.edge → HaveSeen Q xs 1
seen_first Q xs p low is here = seen_one Q Q xs 0 p low is (λ e q. q) here (AllWithin-none (λ (x : IncidentEdge). Q x.edge) xs 0)

-- once all are seen it holds of each edge at the vertex
pub seen_around : (s : Search) (v : ℕ) (Q : ℕ → Type 0) (xs : List IncidentEdge) (i : ℕ) → HasShape s → is_vertex s.graph.vertices v ≡ true
    → xs ≡ slice_index_or s.incidence v [] → length xs ≤ i → HaveSeen Q xs i → (e : ℕ) → IsEdgeNumber s.graph e → touches (edge_of s.graph e) v ≡ true → Q e
seen_around s v Q xs i shape vertex list all seen e is t =
    holds_all Q (numbers_of xs) e (All-map Q (λ (p : IncidentEdge). p.edge) xs (λ k d low. seen k d (omega arith) (omega (arith, low, all))))
    (ap (λ ys. holds ys e) (incidence_around s v xs shape vertex list) ∙ around-has s.graph v e is t)

-- as many as there are edges at the vertex
pub count_around : (s : Search) (v : ℕ) (xs : List IncidentEdge) → HasShape s → is_vertex s.graph.vertices v ≡ true → xs ≡ slice_index_or s.incidence v []
    → length xs ≡ length (edges_around s.graph v)
count_around s v xs shape vertex list = incident_count xs (edges_around s.graph v) (incidence_around s v xs shape vertex list)

-- a list that isn't empty
pub some_there : {A : Type 0} (xs : List A) (t : Bool) → t ≡ eqb (length xs) 0 → t ≡ false → 0 < length xs
some_there xs t is none = let ne = eqb-false (length xs) 0 (sym is ∙ none) in omega (arith, ne)
