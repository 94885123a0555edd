-- The list at a place is the one from which offsets and items were laid.
use Rattle.certificates.proofs.Common.{◌≡◌, ℕ, ◌+◌, ◌<◌, ◌≤◌, ℤ, pos, List, [], ◌∷◌, ◌++◌, length, map, take, drop, get_or, refl, sym, ap, ◌∙◌, subst, arith, ints}
use Rattle.certificates.proofs.Common.{length-append, length-map, take_more, take_all, drop_more, flat_map-append, tabled-at, tabled-length, take-append_seam, Document}
use Rattle.std.proofs.Common.{take-append-drop}
use Rattle.array_call.specs.Layout.{all_items, offset_at, offsets, leads, lists, set_list}
use Rattle.array_call.specs.Sheets.{Sheet, IsListAt}
use Rattle.array_call.specs.Documents.{HasLists}
use Rattle.array_call.proofs.Layouts.{items-more}

drop-front : (xs ys : List ℤ) → drop (length xs) (xs ++ ys) ≡ ys
drop-front [] ys = refl
drop-front (x ∷ xs) ys = drop-front xs ys

module _ (xss : List (List ℤ)) (k : ℕ) (below : k < length xss) where
  abbrev earlier : List ℤ
  earlier = all_items (take k xss)

  abbrev here : List ℤ
  here = get_or xss k []

  abbrev later : List ℤ
  later = all_items (drop (k + 1) xss)

  split : all_items xss ≡ earlier ++ (here ++ later)
  split =
      ap all_items (sym (take-append-drop k xss))
      ∙ flat_map-append (λ (xs : List ℤ). xs) (take k xss) (drop k xss)
      ∙ ap (λ (yss : List (List ℤ)). earlier ++ all_items yss) (drop_more xss k [] below)

  begins : get_or (offsets xss) k (pos 0) ≡ pos (length earlier)
  begins = tabled-at (offset_at xss) (length xss + 1) k (pos 0) (omega (arith, below))

  ends : get_or (offsets xss) (k + 1) (pos 0) ≡ pos (length earlier + length here)
  ends =
      tabled-at (offset_at xss) (length xss + 1) (k + 1) (pos 0) (omega (arith, below))
      ∙ ap (λ (yss : List (List ℤ)). pos (length (all_items yss))) (take_more xss k [] below)
      ∙ ap (λ (ys : List ℤ). pos (length ys)) (items-more (take k xss) here)
      ∙ ap pos (length-append earlier here)

  taken : here ≡ take (length here) (drop (length earlier) (all_items xss))
  taken = sym
      (ap (λ (ys : List ℤ). take (length here) (drop (length earlier) ys)) split ∙ ap (take (length here)) (drop-front earlier (here ++ later)) ∙ take-append_seam here later)

  inside : length earlier + length here ≤ length (all_items xss)
  inside = omega (arith, ap length split, length-append earlier (here ++ later), length-append here later)

  pub list-there : (at : IsListAt (offsets xss) (all_items xss) k here) × (at.first + at.size ≤ length (all_items xss))
  list-there = (record { first = length earlier; size = length here; begins = begins; ends = ends; list_is = taken }, inside)

  pub list-back : (list : List ℤ) → IsListAt (offsets xss) (all_items xss) k list → list ≡ here
  list-back list at =
      let first : at.first ≡ length earlier = omega (arith, ints, at.begins, begins) in
      let size : at.size ≡ length here = omega (arith, ints, first, at.ends, ends) in
      at.list_is ∙ ap (λ (n : ℕ). take n (drop at.first (all_items xss))) size ∙ ap (λ (n : ℕ). take (length here) (drop n (all_items xss))) first ∙ sym taken

-- the same of parts of numbers that have these lists
module _ (s : Sheet) (xss : List (List ℤ)) (has : HasLists s xss) where
  pub within : (k : ℕ) → k < length s.leads → k < length xss
  within k below = omega (arith, below, has.count)

  pub offsets-there : (k : ℕ) → k < length s.leads → k + 1 < length s.offsets
  offsets-there k below = omega (arith, below, has.count, ap length has.offsets, tabled-length (offset_at xss) (length xss + 1))

  pub list-same : (k : ℕ) (list : List ℤ) → k < length s.leads → IsListAt s.offsets s.items k list → list ≡ get_or xss k []
  list-same k list below at =
      list-back xss k (omega (arith, below, has.count)) list
      (subst (λ (os : List ℤ). IsListAt os (all_items xss) k list) has.offsets (subst (λ (is : List ℤ). IsListAt s.offsets is k list) has.items at))

  -- so none is missing
  pub none-missing : (k : ℕ) → k < length s.leads →
      (k + 1 < length s.offsets → (list : List ℤ) → (at : IsListAt s.offsets s.items k list) → at.first + at.size ≤ length s.items → ⊥) → ⊥
  none-missing k below missing =
      let both = list-there xss k (omega (arith, below, has.count)) in
      let there = both.0 in
      missing (offsets-there k below) (get_or xss k [])
      (record {
        first = there.first;
        size = there.size;
        begins = ap (λ (os : List ℤ). get_or os k (pos 0)) has.offsets ∙ there.begins;
        ends = ap (λ (os : List ℤ). get_or os (k + 1) (pos 0)) has.offsets ∙ there.ends;
        list_is = there.list_is ∙ ap (λ (is : List ℤ). take there.size (drop there.first is)) (sym has.items);
      })
      (subst (λ (is : List ℤ). there.first + there.size ≤ length is) (sym has.items) both.1)

  -- each list has its lead
  pub all-taken : (k : ℕ) (ys : List (List ℤ)) → ys ≡ take k xss → length s.leads ≤ k → ys ≡ xss
  all-taken k ys before past = before ∙ take_all k xss (omega (arith, past, has.count))

-- as many lists as leads
pub lists-count : (d : Document) → length (lists d.sets d.paths) ≡ length (leads d.sets d.paths)
lists-count d =
    omega (
      arith,
      length-append (map set_list d.sets) (map (λ r. r.edges) d.paths),
      length-append (map (λ z. z.dual) d.sets) (map (λ r. r.vertex) d.paths),
      length-map d.sets set_list,
      length-map d.paths (λ r. r.edges),
      length-map d.sets (λ z. z.dual),
      length-map d.paths (λ r. r.vertex),
    )
