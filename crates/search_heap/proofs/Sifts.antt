-- An entry on its way through a heap, in which place j is free for it.
use Rattle.std.proofs.Common.{◌≡◌, ℕ, ◌<◌, ◌≢◌, List, length, get_or, set, refl, sym, ap, ◌∙◌, subst, arith, ℤ}
use Rattle.std.proofs.lemmas.List.{length-set}
use Rattle.search_heap.specs.declared.entry.Entry.{Entry}
use Rattle.search_heap.specs.Heaps.{key, held, HasHole, IsHeap, IsMended}
use Rattle.search_heap.proofs.EntryAt.{entry_at}
use Rattle.search_heap.proofs.Readings.{slot_by}
use Rattle.search_heap.proofs.Holes.{hole_moves, same_moved, put_mends}

pub record IsSifting (highs : List ℤ) (old_heap : List Entry) (old_places : List ℕ) (heap : List Entry) (places : List ℕ) (count j : ℕ) (entry : Entry) : Type 0 where
  pub hole : HasHole heap places count j entry.slot
  pub size : length heap ≡ length old_heap
  pub same : (s : ℕ) → s < length heap → s ≢ entry.slot → held highs count heap (get_or places s 0) ≡ held highs count old_heap (get_or old_places s 0)

-- an entry that sets out
pub sift_starts : (highs : List ℤ) (heap : List Entry) (places : List ℕ) (count j : ℕ) (entry : Entry) → HasHole heap places count j entry.slot
    → IsSifting highs heap places heap places count j entry
sift_starts highs heap places count j entry h = record { hole = h; size = refl; same = λ s low ne. refl }

-- an entry that another one makes place for
pub sift_steps : (highs : List ℤ) (old_heap : List Entry) (old_places : List ℕ) (heap : List Entry) (places : List ℕ) (count j p : ℕ) (entry above : Entry)
    (new_heap : List Entry) (new_places : List ℕ) → IsSifting highs old_heap old_places heap places count j entry → p < count → p ≢ j
    → above ≡ entry_at heap p → new_heap ≡ set heap j above → new_places ≡ set places above.slot j → IsSifting highs old_heap old_places new_heap new_places count p entry
sift_steps highs old_heap old_places heap places count j p entry above new_heap new_places s within ne a h q =
    let size : length (set heap j (entry_at heap p)) ≡ length heap = length-set heap j (entry_at heap p) in
    subst (λ l. IsSifting highs old_heap old_places l new_places count p entry) (sym (h ∙ ap (λ z. set heap j z) a))
    (subst (λ l. IsSifting highs old_heap old_places (set heap j (entry_at heap p)) l count p entry) (sym (q ∙ ap (λ k. set places k j) (slot_by above (entry_at heap p) a)))
    (record {
      hole = hole_moves heap places count j p entry.slot s.hole within ne;
      size = size ∙ s.size;
      same = λ i low no.
          let inside : i < length heap = omega (arith, low, size) in
          same_moved heap places count j p entry.slot s.hole within ne highs i inside no ∙ s.same i inside no;
    }))

-- an entry that has arrived
pub sift_ends : (highs : List ℤ) (old_heap : List Entry) (old_places : List ℕ) (heap : List Entry) (places : List ℕ) (count j : ℕ) (entry : Entry)
    (new_heap : List Entry) (new_places : List ℕ) → IsSifting highs old_heap old_places heap places count j entry
    → new_heap ≡ set heap j entry → new_places ≡ set places entry.slot j → IsHeap (key highs (set heap j entry)) count
    → IsMended highs entry old_heap old_places new_heap new_places count
sift_ends highs old_heap old_places heap places count j entry new_heap new_places s h p order =
    let d = put_mends heap places count j entry s.hole highs order in
    subst (λ l. IsMended highs entry old_heap old_places l new_places count) (sym h)
    (subst (λ l. IsMended highs entry old_heap old_places (set heap j entry) l count) (sym p)
    (record { tables = d.tables; order = order; size = d.size ∙ s.size; own = d.own; same = λ i low no. d.same i low no ∙ s.same i (omega (arith, low, d.size)) no }))
