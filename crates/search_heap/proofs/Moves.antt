-- The steps of an entry on its way up or down.
use Rattle.std.proofs.lemmas.Int.{ints}
use Rattle.std.proofs.Common.{◌≡◌, ℕ, ◌+◌, ◌-◌, ◌*◌, ◌/◌, ◌<◌, ◌≤◌, ◌≢◌, List, set, refl, sym, ap, ◌∙◌, subst, arith, ℤ, ◌≤ℤ◌}
use Rattle.search_heap.specs.declared.entry.Entry.{Entry}
use Rattle.search_heap.specs.Heaps.{moment_in, key, IsRising, IsSinking, IsLaterParent, IsHeap, IsLeastOf, IsEarlierChild, NoEarlierChild}
use Rattle.search_heap.proofs.EntryAt.{entry_at}
use Rattle.search_heap.proofs.Orders.{rise_steps, sink_steps, IsSwapped}
use Rattle.search_heap.proofs.Holes.{put_key, other_key, keys_swapped}
use Rattle.search_heap.proofs.Sifts.{IsSifting, sift_steps}

module _ (highs : List ℤ) (old_heap : List Entry) (old_places : List ℕ) (heap : List Entry) (places : List ℕ) (count j : ℕ) (entry : Entry)
    (s : IsSifting highs old_heap old_places heap places count j entry) where
  own_key : key highs (set heap j entry) j ≡ moment_in highs entry
  own_key = put_key heap places count j entry s.hole highs

  there : (k : ℕ) → k ≢ j → key highs (set heap j entry) k ≡ key highs heap k
  there k ne = other_key heap places count j entry s.hole highs k ne

  -- in tables with the entry of another place at this one
  swapped : (p : ℕ) (above : Entry) (new_heap : List Entry) → p < count → p ≢ j → above ≡ entry_at heap p → new_heap ≡ set heap j above
      → IsSwapped (key highs (set heap j entry)) (key highs (set new_heap p entry)) j p
  swapped p above new_heap within ne a h =
      subst (λ l. IsSwapped (key highs (set heap j entry)) (key highs (set l p entry)) j p) (sym (h ∙ ap (λ z. set heap j z) a))
      (keys_swapped heap places count j p entry.slot s.hole within ne highs entry refl)

  pub rise_moves : (p : ℕ) (above : Entry) (new_heap : List Entry) (new_places : List ℕ) → IsLaterParent (key highs heap) (moment_in highs entry) j p → above ≡ entry_at heap p
      → new_heap ≡ set heap j above → new_places ≡ set places above.slot j
      → IsRising (key highs (set heap j entry)) j count → IsSifting highs old_heap old_places new_heap new_places count p entry × IsRising (key highs (set new_heap p entry)) p count
  rise_moves p above new_heap new_places later a h q r =
      let below : p < j = omega (arith, later.parent, later.below) in
      let p_in : p < count = omega (arith, below, s.hole.place) in
      let ne : p ≢ j = λ e. absurd (omega arith) in (
        sift_steps highs old_heap old_places heap places count j p entry above new_heap new_places s p_in ne a h q,
        rise_steps (key highs (set heap j entry)) (key highs (set new_heap p entry)) j p count later.below later.parent s.hole.place
            (grind (arith, ints, own_key, there p ne, later.later))
            (swapped p above new_heap p_in ne a h) r,
      )

  pub rise_ends : (0 < j → key highs heap ((j - 1) / 4) ≤ℤ moment_in highs entry) → IsRising (key highs (set heap j entry)) j count → IsHeap (key highs (set heap j entry)) count
  rise_ends last r = record { order = λ p k a b c. grind (arith, ints, own_key, there p, there k, last, r.others p k a b c) }

  pub sink_moves : (c : ℕ) (below : Entry) (new_heap : List Entry) (new_places : List ℕ) → IsEarlierChild (key highs heap) (moment_in highs entry) count j c → below ≡ entry_at heap c
      → new_heap ≡ set heap j below → new_places ≡ set places below.slot j
      → IsSinking (key highs (set heap j entry)) j count → IsSifting highs old_heap old_places new_heap new_places count c entry × IsSinking (key highs (set new_heap c entry)) c count
  sink_moves c below new_heap new_places earlier a h q r =
      let low : j * 4 + 1 ≤ c = earlier.child.low in
      let c_in : c < count = earlier.child.within in
      let ne : c ≢ j = λ e. absurd (omega arith) in
      let child : IsLeastOf (key highs (set heap j entry)) count (j * 4 + 1) 4 c = record {
        low = low;
        high = earlier.child.high;
        within = c_in;
        least = λ k m n o. grind (arith, ints, there c ne, there k, earlier.child.least k m n o);
      } in (
        sift_steps highs old_heap old_places heap places count j c entry below new_heap new_places s c_in ne a h q,
        sink_steps (key highs (set heap j entry)) (key highs (set new_heap c entry)) j c count child
            (grind (arith, ints, own_key, there c ne, earlier.earlier))
            (swapped c below new_heap c_in ne a h) r,
      )

  pub sink_ends : NoEarlierChild (key highs heap) (moment_in highs entry) count j → IsSinking (key highs (set heap j entry)) j count → IsHeap (key highs (set heap j entry)) count
  sink_ends last r = record { order = λ p k a b c. grind (arith, ints, own_key, there p, there k, last.none k, r.others p k a b c) }
