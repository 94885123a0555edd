-- The moments are a finite map.
use Rattle.std.proofs.Common.{◌≡◌, ℕ, zero, suc, ◌-◌, ◌≤◌, ◌≢◌, List, length, set, replicate, refl, ap, arith, Option, Some, None, ℤ}
use Rattle.std.proofs.lemmas.List.{get_or-set_same, get_or-set_other, get_or_past, length-set}
use Rattle.graph_theory.proofs.Members.{everywhere as same_at}
use Rattle.search_heap.specs.declared.item.Item.{Item}
use Rattle.search_heap.specs.declared.item.Item.TheVariants.{Edge, Blossom}
use Rattle.search_heap.specs.Moments.{entry}
use Rattle.search_heap.specs.Laws.{NewHasNone, HasWhatIsSet, OthersStay, PlacesStay, OnlyItemsHave}

entry_none : (n k : ℕ) → entry (replicate n None) k ≡ None
entry_none n zero = refl
entry_none n (suc k) = same_at None n k

entry_set : (xs : List (Option ℤ)) (k : ℕ) (m : Option ℤ) → 1 ≤ k → k ≤ length xs → entry (set xs (k - 1) m) k ≡ m
entry_set xs zero m low high = absurd (omega (arith, low))
entry_set xs (suc k) m low high = grind (arith, get_or-set_same xs k m None)

entry_other : (xs : List (Option ℤ)) (k j : ℕ) (m : Option ℤ) → 1 ≤ k → j ≢ k → entry (set xs (k - 1) m) j ≡ entry xs j
entry_other xs k zero m low ne = refl
entry_other xs k (suc j) m low ne = get_or-set_other xs (k - 1) j m None (λ e. ne (let same : suc j ≡ k = omega arith in same))

entry_within : (xs : List (Option ℤ)) (k : ℕ) (m : ℤ) → entry xs k ≡ Some m → (1 ≤ k) × (k ≤ length xs)
entry_within xs zero m is = absurd (cc)
entry_within xs (suc k) m is = (grind arith, grind (arith, get_or_past xs k None))

pub new_has_none : NewHasNone
new_has_none edges nodes (Edge e) = entry_none edges e
new_has_none edges nodes (Blossom b) = entry_none nodes b

pub has_what_is_set : HasWhatIsSet
has_what_is_set q (Edge e) m h = entry_set q.edges e m h.0 h.1
has_what_is_set q (Blossom b) m h = entry_set q.blossoms b m h.0 h.1

pub others_stay : OthersStay
others_stay q (Edge e) (Edge k) m h ne = entry_other q.edges e k m h.0 (λ s. ne (ap (λ i. let other : Item = Edge i in other) s))
others_stay q (Edge e) (Blossom k) m h ne = refl
others_stay q (Blossom b) (Edge k) m h ne = refl
others_stay q (Blossom b) (Blossom k) m h ne = entry_other q.blossoms b k m h.0 (λ s. ne (ap (λ i. let other : Item = Blossom i in other) s))

pub places_stay : PlacesStay
places_stay q (Edge e) m = (length-set q.edges (e - 1) m, refl)
places_stay q (Blossom b) m = (refl, length-set q.blossoms (b - 1) m)

pub only_items_have : OnlyItemsHave
only_items_have q (Edge e) m is = entry_within q.edges e m is
only_items_have q (Blossom b) m is = entry_within q.blossoms b m is
