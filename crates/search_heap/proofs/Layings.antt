-- The tables of a heap once they are filled.
use Rattle.std.proofs.Common.{◌≡◌, ℕ, ◌<◌, ◌≤◌, ◌^◌, List, [], ◌∷◌, length, get_or, map, replicate, refl, sym, ap, ◌∙◌, subst, arith, Option, None, ℤ}
use Rattle.std.proofs.lemmas.List.{get_or-replicate, length-replicate}
use Rattle.search_heap.specs.declared.entry.Entry.{Entry}
use Rattle.search_heap.specs.Heaps.{absent, blank, filled, held, key, AreTables, IsHeap}
use Rattle.search_heap.proofs.Entries.{none_held}

-- tables of this size with the entries that they had, in which this slot has no place
pub record AreLaid (highs : List ℤ) (heap : List Entry) (places : List ℕ) (new_heap : List Entry) (new_places : List ℕ) (count slots slot : ℕ) : Type 0 where
  pub tables : AreTables new_heap new_places count
  pub order : IsHeap (key highs new_heap) count
  pub size : length new_heap ≡ slots
  pub behind : count ≤ get_or new_places slot 0
  pub entries : map (held highs count new_heap) new_places ≡ filled slots None (map (held highs count heap) places)

filled_laid : (highs : List ℤ) (heap : List Entry) (places : List ℕ) (count size slot : ℕ) → AreTables heap places count → IsHeap (key highs heap) count
    → (0 < length heap → length heap ≡ size) → size < 2 ^ 32 → slot < size → (slot < length places → count ≤ get_or places slot 0)
    → AreLaid highs heap places (filled size blank heap) (filled size absent places) count size slot
filled_laid highs [] [] count size slot t order whole fits within behind =
    let none : count ≡ 0 = omega (arith, t.count_limit) in
    let long : length (replicate size blank) ≡ size = length-replicate size blank in
    let places_long : length (replicate size absent) ≡ size = length-replicate size absent in
    let nowhere : (s : ℕ) → s < size → get_or (replicate size absent) s 0 ≡ absent = λ s h. get_or-replicate size s absent 0 h in
    record {
      tables = record {
        inverse = record {
          sizes = places_long ∙ sym long;
          slots = λ i h. absurd (omega (arith, h, none));
          there = λ i h. absurd (omega (arith, h, none));
          spots = λ s h l. absurd (omega (arith, nowhere s (omega (arith, h, long)), l, long, fits));
          back = λ s h l. absurd (omega (arith, l, none));
        };
        count_limit = omega (arith, none);
        size_limit = omega (arith, long, fits);
      };
      order = record { order = λ p k a b c. absurd (omega (arith, c, none)) };
      size = long;
      behind = omega (arith, none);
      entries = ap (λ n. map (held highs n (replicate size blank)) (replicate size absent)) none ∙ none_held highs (replicate size blank) (replicate size absent)
          ∙ ap (λ n. let l : List (Option ℤ) = replicate n None in l) places_long;
    }
filled_laid highs (e ∷ es) (p ∷ ps) count size slot t order whole fits within behind = record {
  tables = t;
  order = order;
  size = whole (omega arith);
  behind = behind (omega (arith, within, whole (omega arith), t.inverse.sizes));
  entries = refl;
}
filled_laid highs [] (p ∷ ps) count size slot t order whole fits within behind = absurd (omega (arith, t.inverse.sizes))
filled_laid highs (e ∷ es) [] count size slot t order whole fits within behind = absurd (omega (arith, t.inverse.sizes))

pub laid_out : (highs : List ℤ) (heap : List Entry) (places : List ℕ) (new_heap : List Entry) (new_places : List ℕ) (count size slot : ℕ)
    → AreTables heap places count → IsHeap (key highs heap) count → (0 < length heap → length heap ≡ size) → size < 2 ^ 32 → slot < size
    → (slot < length places → count ≤ get_or places slot 0) → new_heap ≡ filled size blank heap → new_places ≡ filled size absent places
    → AreLaid highs heap places new_heap new_places count size slot
laid_out highs heap places new_heap new_places count size slot t order whole fits within behind h p =
    subst (λ l. AreLaid highs heap places l new_places count size slot) (sym h)
    (subst (λ l. AreLaid highs heap places (filled size blank heap) l count size slot) (sym p) (filled_laid highs heap places count size slot t order whole fits within behind))
