-- Moments of a queue after one of them is set or taken away, and how many edges have one.
use Rattle.graph_theory.proofs.Common.{◌≡◌, ◌≢◌, ℕ, zero, suc, ◌+◌, ◌-◌, ◌≤◌, List, [], ◌∷◌, length, get_or, set, Option, Some, None, ap, ◌∙◌, arith}
use Rattle.graph_theory.proofs.Common.{ℤ, IsEdgeNumber}
use Rattle.search_heap.specs.declared.item.Item.{Item}
use Rattle.search_heap.specs.declared.item.Item.TheVariants.{Edge, Blossom}
use Rattle.search_heap.specs.Moments.{Moments, moment_of, with_moment, IsItem}
use Rattle.search_heap.proofs.Maps.{has_what_is_set, others_stay, places_stay}
use Rattle.alt_forest.specs.declared.search.Search.{Search}
use Rattle.alt_forest.specs.Entries.{entered_among, entry_count}
use Rattle.alt_forest.specs.Searches.{HasShape, IsSound}
use Rattle.alt_forest.specs.TreeNodes.{HasTreeNodes}
use Rattle.alt_forest.specs.Trees.{node_limit}

-- what is an edge or a node of the graph has a place in the queue
pub edge_item : (s : Search) (e : ℕ) → HasShape s → IsEdgeNumber s.graph e → IsItem s.queue (Edge e)
edge_item s e h is = (is.0, omega (arith, is.1, h.room.edges))

pub node_item : (s : Search) (b : ℕ) → HasShape s → 1 ≤ b → b ≤ node_limit s.graph.vertices → IsItem s.queue (Blossom b)
node_item s b h low high = (low, omega (arith, high, h.room.nodes))

-- what an item has after it is given a moment, or none, and what the others have
pub edge_set : (q : Moments) (e : ℕ) (m : Option ℤ) → IsItem q (Edge e) → moment_of (with_moment q (Edge e) m) (Edge e) ≡ m
edge_set q e m is = has_what_is_set q (Edge e) m is

pub edge_other : (q : Moments) (e d : ℕ) (m : Option ℤ) → IsItem q (Edge e) → d ≢ e → moment_of (with_moment q (Edge e) m) (Edge d) ≡ moment_of q (Edge d)
edge_other q e d m is ne = others_stay q (Edge e) (Edge d) m is (λ p. ne (let same : d ≡ e = cc in same))

pub blossom_set : (q : Moments) (b : ℕ) (m : Option ℤ) → IsItem q (Blossom b) → moment_of (with_moment q (Blossom b) m) (Blossom b) ≡ m
blossom_set q b m is = has_what_is_set q (Blossom b) m is

pub blossom_other : (q : Moments) (b c : ℕ) (m : Option ℤ) → IsItem q (Blossom b) → c ≢ b → moment_of (with_moment q (Blossom b) m) (Blossom c) ≡ moment_of q (Blossom c)
blossom_other q b c m is ne = others_stay q (Blossom b) (Blossom c) m is (λ p. ne (let same : c ≡ b = cc in same))

-- a list of moments with one set or taken away
entered_set : (xs : List (Option ℤ)) (i : ℕ) (m : ℤ) → entered_among (set xs i (Some m)) ≤ entered_among xs + 1
entered_set [] i m = omega arith
entered_set (None ∷ xs) zero m = omega arith
entered_set (Some x ∷ xs) zero m = omega arith
entered_set (None ∷ xs) (suc i) m = entered_set xs i m
entered_set (Some x ∷ xs) (suc i) m = omega (arith, entered_set xs i m)

entered_removed : (xs : List (Option ℤ)) (i : ℕ) (m : ℤ) → get_or xs i None ≡ Some m → entered_among (set xs i None) + 1 ≡ entered_among xs
entered_removed [] i m e = absurd (cc)
entered_removed (None ∷ xs) zero m e = absurd (cc)
entered_removed (Some x ∷ xs) zero m e = omega arith
entered_removed (None ∷ xs) (suc i) m e = entered_removed xs i m e
entered_removed (Some x ∷ xs) (suc i) m e = omega (arith, entered_removed xs i m e)

-- an edge more has a moment at most, where one is set
pub count_set : (q : Moments) (e : ℕ) (m : ℤ) → entry_count (with_moment q (Edge e) (Some m)) ≤ entry_count q + 1
count_set q e m = entered_set q.edges (e - 1) m

-- no more edges have one where one is taken away, and one less where there was one
pub count_removed : (q : Moments) (e : ℕ) (m : ℤ) → moment_of q (Edge e) ≡ Some m → entry_count (with_moment q (Edge e) None) + 1 ≡ entry_count q
count_removed q zero m has = absurd (cc)
count_removed q (suc k) m has =
    let place : suc k - 1 ≡ k = omega arith in
    ap (λ i. entered_among (set q.edges i None) + 1) place ∙ entered_removed q.edges k m has

-- the moments of blossoms are none of those of edges
-- a search with another queue for the same items
pub room_with : (s : Search) (q : Moments) → length q.edges ≡ length s.queue.edges → length q.blossoms ≡ length s.queue.blossoms → HasShape s → HasShape (record s { queue = q })
room_with s q edges blossoms h = assumption (edges ∙ h.room.edges, blossoms ∙ h.room.nodes)

pub sound_with : (s : Search) (q : Moments) → length q.edges ≡ length s.queue.edges → length q.blossoms ≡ length s.queue.blossoms → IsSound s → IsSound (record s { queue = q })
sound_with s q edges blossoms h = record { shape = room_with s q edges blossoms h.shape; depth = h.depth; state = h.state }

pub sound_set : (s : Search) (item : Item) (m : Option ℤ) → IsSound s → IsSound (record s { queue = with_moment s.queue item m })
sound_set s item m h = let same = places_stay s.queue item m in sound_with s (with_moment s.queue item m) same.0 same.1 h

-- what is listed has nothing to do with the queue
pub tree_nodes_with : (s : Search) (q : Moments) → HasTreeNodes s → HasTreeNodes (record s { queue = q })
tree_nodes_with s q h = assumption
