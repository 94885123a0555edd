-- Items by their slots.
use Rattle.std.proofs.lemmas.Bool.Decides.{nat_tests}
use Rattle.std.proofs.Common.{◌≡◌, ℕ, zero, suc, ◌+◌, ◌-◌, ◌<◌, ◌≤◌, List, [], ◌∷◌, length, get_or, set, take, drop, replicate, sym, refl, ap, ap₂}
use Rattle.std.proofs.Common.{◌∙◌, inl, inr, ◌⊎◌, arith, add-one, Option, Some, None, ℤ}
use Rattle.std.proofs.lemmas.List.{get_or-take, get_or-drop, get_or_past, take-set-le, drop-set-lt, drop-set-add, length-take-le, length-drop, take-replicate, drop-replicate}
use Rattle.search_heap.specs.declared.item.Item.{Item}
use Rattle.search_heap.specs.declared.item.Item.TheVariants.{Edge, Blossom}
use Rattle.search_heap.specs.Moments.{Moments, no_moments, moment_of, with_moment, IsItem, IsNumbered, IsLeast}
use Rattle.search_heap.specs.Slots.{by_item, slot_of, item_of, IsLeastSlot}

take_set : (n : ℕ) (xs : List (Option ℤ)) (i : ℕ) (m : Option ℤ) → i < n → take n (set xs i m) ≡ set (take n xs) i m
take_set zero xs i m h = absurd (omega arith)
take_set (suc n) [] i m h = refl
take_set (suc n) (x ∷ xs) zero m h = refl
take_set (suc n) (x ∷ xs) (suc i) m h = ap (λ ys. x ∷ ys) (take_set n xs i m (omega arith))

-- the queue's places and the slots
pub numbered : (n nodes : ℕ) (xs : List (Option ℤ)) (item : Item) → length xs ≡ n + nodes → IsItem (by_item n xs) item → IsNumbered n nodes item
numbered n nodes xs (Edge e) long h = (h.0, omega (arith, h.1, long, length-take-le n xs))
numbered n nodes xs (Blossom b) long h = (h.0, omega (arith, h.1, long, length-drop n xs))

pub by_item_set : (n nodes : ℕ) (xs : List (Option ℤ)) (item : Item) (m : Option ℤ) → length xs ≡ n + nodes → IsNumbered n nodes item
    → by_item n (set xs (slot_of n item) m) ≡ with_moment (by_item n xs) item m
by_item_set n nodes xs (Edge e) m long h =
    let low : e - 1 < n = omega (arith, h.0, h.1) in
    ap₂ (λ (a b : List (Option ℤ)). let q : Moments = record { edges = a; blossoms = b } in q) (take_set n xs (e - 1) m low) (drop-set-lt n xs (e - 1) m low)
by_item_set n nodes xs (Blossom b) m long h =
    ap₂ (λ (c d : List (Option ℤ)). let q : Moments = record { edges = c; blossoms = d } in q) (take-set-le n xs (n + (b - 1)) m (omega arith)) (drop-set-add n xs (b - 1) m)

-- what an item has is what its slot has
pub moment_cases : (n : ℕ) (xs : List (Option ℤ)) (item : Item) → n ≤ length xs
    → (moment_of (by_item n xs) item ≡ None) ⊎ (moment_of (by_item n xs) item ≡ get_or xs (slot_of n item) None)
moment_cases n xs (Edge zero) few = inl refl
moment_cases n xs (Edge (suc k)) few = grind (arith, get_or-take n xs k None, get_or_past (take n xs) k None, length-take-le n xs few)
moment_cases n xs (Blossom zero) few = inl refl
moment_cases n xs (Blossom (suc k)) few = inr (get_or-drop n xs k None ∙ ap (λ i. get_or xs i None) (let e : n + k ≡ n + (suc k - 1) = omega arith in e))

-- the item of a slot
moment_of_item : (n s : ℕ) (xs : List (Option ℤ)) → n ≤ length xs → moment_of (by_item n xs) (item_of n s) ≡ get_or xs s None
moment_of_item n s xs few = grind (arith, nat_tests, add-one s, add-one (s - n), get_or-take n xs s None, get_or-drop n xs (s - n) None)

pub least_some : (n : ℕ) (xs : List (Option ℤ)) (s : ℕ) (m : ℤ) → n ≤ length xs → IsLeastSlot xs (Some (s, m)) → IsLeast (by_item n xs) (Some (item_of n s, m))
least_some n xs s m few h = (moment_of_item n s xs few ∙ h.0, λ item w is. grind (arith, moment_cases n xs item few, h.1 (slot_of n item) w))

-- none has a moment
pub by_item_none : (n nodes : ℕ) → by_item n (replicate (n + nodes) None) ≡ no_moments n nodes
by_item_none n nodes =
    let rest : n + nodes - n ≡ nodes = omega arith in
    ap₂ (λ (a b : List (Option ℤ)). let q : Moments = record { edges = a; blossoms = b } in q)
    (take-replicate n (n + nodes) None (omega arith))
    (drop-replicate n (n + nodes) None ∙ ap (λ k. let l : List (Option ℤ) = replicate k None in l) rest)

pub by_item_cleared : (n nodes : ℕ) (xs ys : List (Option ℤ)) → length xs ≡ n + nodes → ys ≡ replicate (length xs) None
    → by_item n ys ≡ no_moments (length (take n xs)) (length (drop n xs))
by_item_cleared n nodes xs ys long is =
    let first : length (take n xs) ≡ n = length-take-le n xs (omega (arith, long)) in
    let second : length (drop n xs) ≡ nodes = omega (arith, long, length-drop n xs) in
    ap (by_item n) (is ∙ ap (λ k. let l : List (Option ℤ) = replicate k None in l) long)
    ∙ by_item_none n nodes ∙ ap₂ no_moments (sym first) (sym second)
