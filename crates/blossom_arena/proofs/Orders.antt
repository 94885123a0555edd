-- The order of the blossoms, as a circle with 0 between its two ends.
use Rattle.graph_theory.proofs.Common.{nat_tests, ◌≡◌, ℕ, suc, ◌+◌, ◌<◌, ◌≢◌, ◌⊎◌, true, false, eqb, cond, List, [], ◌∷◌, length, refl, sym, ap, ◌∙◌}
use Rattle.graph_theory.proofs.Common.{subst, arith, get_or, set, eqb-true, or_parts, both_ways, get_or-set_other, get_or-set_same, length-set, holds}
use Rattle.blossom_arena.specs.Tables.{walk}
use Rattle.blossom_arena.specs.Fields.{IsOrder}
use Rattle.blossom_arena.proofs.Lists.{by_test, AllNew, first_in, later_in}

-- the numbers without this one
abbrev pub removed : List ℕ → ℕ → List ℕ
removed [] a = []
removed (x ∷ xs) a = cond (eqb x a) xs (x ∷ removed xs a)

pub length-removed : (xs : List ℕ) (a : ℕ) → holds xs a ≡ true → length (removed xs a) + 1 ≡ length xs
length-removed [] a k = absurd (both_ways false refl k)
length-removed (x ∷ xs) a k = grind (arith, nat_tests, length-removed xs a)

pub removed_sub : (xs : List ℕ) (a x : ℕ) → holds (removed xs a) x ≡ true → holds xs x ≡ true
removed_sub [] a x k = k
removed_sub (y ∷ ys) a x k = grind (arith, nat_tests, removed_sub ys a x)

pub removed_has : (xs : List ℕ) (a x : ℕ) → eqb a x ≡ false → holds xs x ≡ true → holds (removed xs a) x ≡ true
removed_has [] a x ne k = k
removed_has (y ∷ ys) a x ne k = grind (arith, nat_tests, removed_has ys a x ne)

pub removed_not : (xs : List ℕ) (a : ℕ) → AllNew xs → holds (removed xs a) a ≡ false
removed_not [] a h = refl
removed_not (y ∷ ys) a h = grind (arith, nat_tests, h.0, removed_not ys a h.1)

-- the order by its table
pub walk_order : (o w : List ℕ) (p : ℕ) (xs : List ℕ) → IsOrder o w p xs → walk (length xs) o (get_or o p 0) ≡ xs
walk_order o w p [] h = refl
walk_order o w p (x ∷ xs) h = ap (walk (suc (length xs)) o) h.0 ∙ ap (λ t. x ∷ t) (walk_order o w x xs h.2)

-- the first number, or 0
abbrev pub first_of : List ℕ → ℕ
first_of [] = 0
first_of (x ∷ xs) = x

pub first_within : (xs : List ℕ) → holds (0 ∷ xs) (first_of xs) ≡ true
first_within [] = refl
first_within (x ∷ xs) = later_in 0 (x ∷ xs) x (first_in x xs)

-- it comes next
pub order_first : (o w : List ℕ) (p : ℕ) (xs : List ℕ) → IsOrder o w p xs → (get_or o p 0 ≡ first_of xs) × (get_or w (first_of xs) 0 ≡ p)
order_first o w p [] h = h
order_first o w p (x ∷ xs) h = (h.0, h.1)

differ : (xs : List ℕ) (x y : ℕ) → holds xs x ≡ true → holds xs y ≡ false → x ≢ y
differ xs x y e f s = both_ways (holds xs y) f (subst (λ z. holds xs z ≡ true) s e)

-- the same order after another number
rehead : (o w o' w' : List ℕ) (p q : ℕ) (xs : List ℕ) → IsOrder o w p xs → AllNew xs → holds xs 0 ≡ false → get_or o' q 0 ≡ first_of xs → get_or w' (first_of xs) 0 ≡ q
    → ((x : ℕ) → holds xs x ≡ true → get_or o' x 0 ≡ get_or o x 0)
    → ((x : ℕ) → holds (0 ∷ xs) x ≡ true → x ≢ first_of xs → get_or w' x 0 ≡ get_or w x 0) → IsOrder o' w' q xs
rehead o w o' w' p q [] h new out next before fo fw = (next, before)
rehead o w o' w' p q (y ∷ ys) h new out next before fo fw =
    let at = order_first o w y ys h.2 in
    let stays : (x : ℕ) → holds (0 ∷ ys) x ≡ true → get_or w' x 0 ≡ get_or w x 0 =
    λ x e. fw x (grind (arith, nat_tests)) (differ (0 ∷ ys) x y e (grind (arith, nat_tests, new.0))) in (
      next,
      before,
      rehead o w o' w' y y ys h.2 new.1 (grind arith) (fo y (first_in y ys) ∙ at.0) (stays (first_of ys) (first_within ys) ∙ at.1)
          (λ x e. fo x (later_in y ys x e)) (λ x e ne. stays x e),
    )

-- a new first one
pub put_first_order : (o w : List ℕ) (node : ℕ) (xs : List ℕ) → IsOrder o w 0 xs → AllNew xs → holds xs node ≡ false → holds xs 0 ≡ false → node ≢ 0 → node < length o
    → node < length w → ((x : ℕ) → holds xs x ≡ true → x < length w)
    → IsOrder (set (set o node (get_or o 0 0)) 0 node) (set (set w (get_or o 0 0) node) node 0) 0 (node ∷ xs)
put_first_order o w node xs h new out zero_out nz low high places =
    let first : ℕ = first_of xs in
    let o1 : List ℕ = set o node (get_or o 0 0) in
    let w1 : List ℕ = set w (get_or o 0 0) node in
    let at = order_first o w 0 xs h in
    let others : (x : ℕ) → holds (0 ∷ xs) x ≡ true → x ≢ node = λ x e. differ (0 ∷ xs) x node e (grind (arith, nat_tests)) in
    let place : first < length w = grind (arith, nat_tests, places first, first_within xs) in (
      get_or-set_same o1 0 node 0 (omega (arith, low, length-set o node (get_or o 0 0))),
      get_or-set_same w1 node 0 0 (omega (arith, high, length-set w (get_or o 0 0) node)),
      rehead o w (set o1 0 node) (set w1 node 0) 0 node xs h new zero_out
          (get_or-set_other o1 0 node node 0 nz ∙ get_or-set_same o node (get_or o 0 0) 0 low ∙ at.0)
          (get_or-set_other w1 node first 0 0 (others first (first_within xs)) ∙ ap (λ i. get_or (set w i node) first 0) at.0 ∙ get_or-set_same w first node 0 place)
          (λ x e. get_or-set_other o1 0 x node 0 (differ xs x 0 e zero_out) ∙ get_or-set_other o node x (get_or o 0 0) 0 (differ xs x node e out))
          (λ x e ne. get_or-set_other w1 node x 0 0 (others x e) ∙ get_or-set_other w (get_or o 0 0) x node 0 (λ s. ne (s ∙ at.0))),
    )

-- the neighbours of one in the order
order_before : (o w : List ℕ) (p a : ℕ) (xs : List ℕ) → IsOrder o w p xs → holds xs a ≡ true → holds (p ∷ xs) (get_or w a 0) ≡ true
order_before o w p a [] h k = absurd (both_ways false refl k)
order_before o w p a (x ∷ xs) h k = grind (arith, nat_tests, h.1, order_before o w x a xs h.2)

order_after : (o w : List ℕ) (p a : ℕ) (xs : List ℕ) → IsOrder o w p xs → holds (p ∷ xs) a ≡ true → (get_or o a 0 ≡ 0) ⊎ (holds xs (get_or o a 0) ≡ true)
order_after o w p a [] h k = grind (arith, nat_tests, h.0)
order_after o w p a (x ∷ xs) h k = grind (arith, nat_tests, h.0, order_after o w x a xs h.2)

-- where the neighbours lie in the tables
pub neighbours_within : (o w : List ℕ) (a m : ℕ) (xs : List ℕ) → IsOrder o w 0 xs → holds xs a ≡ true → ((x : ℕ) → holds xs x ≡ true → x < m) → 0 < m
    → (get_or o a 0 < m) × (get_or w a 0 < m)
neighbours_within o w a m xs h k places some = (
  grind (arith, nat_tests, order_after o w 0 a xs h (later_in 0 xs a k), places (get_or o a 0)),
  grind (arith, nat_tests, order_before o w 0 a xs h k, places (get_or w a 0)),
)

-- one is taken out
pub take_out_order : (o w : List ℕ) (p a : ℕ) (xs : List ℕ) → IsOrder o w p xs → AllNew (p ∷ xs) → holds xs a ≡ true → holds xs 0 ≡ false
    → ((x : ℕ) → holds (p ∷ xs) x ≡ true → x < length o) → ((x : ℕ) → holds xs x ≡ true → x < length w) → 0 < length w
    → IsOrder (set o (get_or w a 0) (get_or o a 0)) (set w (get_or o a 0) (get_or w a 0)) p (removed xs a)
take_out_order o w p a [] h new k zero_out places places_w some = absurd (both_ways false refl k)
take_out_order o w p a (x ∷ xs) h new k zero_out places places_w some =
    let o' : List ℕ = set o (get_or w a 0) (get_or o a 0) in
    let w' : List ℕ = set w (get_or o a 0) (get_or w a 0) in
    let pz = or_parts (eqb x 0) (holds xs 0) zero_out in
    by_test (eqb x a)
    (λ e.
    let same : x ≡ a = eqb-true x a e in
    let before : get_or w a 0 ≡ p = ap (λ z. get_or w z 0) (sym same) ∙ h.1 in
    subst (λ q. IsOrder o' w' p (cond q xs (x ∷ removed xs a))) (sym e)
    (joined_up xs (subst (λ z. IsOrder o w z xs) same h.2) before new.1.1 (or_parts (eqb x p) (holds xs p) new.0).1 pz.1 (λ y m. places_w y (later_in x xs y m))))
    (λ e.
    let there : holds xs a ≡ true = grind arith in
    let rest : IsOrder o' w' x (removed xs a) = take_out_order o w x a xs h.2 new.1 there pz.1 (λ y m. places y (later_in p (x ∷ xs) y m)) (λ y m. places_w y (later_in x xs y m)) some in
    let not_p : p ≢ get_or w a 0 = grind (arith, new.0, order_before o w x a xs h.2 there) in
    let not_x : x ≢ get_or o a 0 = grind (arith, nat_tests, pz.0, new.1.0, order_after o w x a xs h.2 (later_in x xs a there)) in
    subst (λ q. IsOrder o' w' p (cond q xs (x ∷ removed xs a))) (sym e)
    (get_or-set_other o (get_or w a 0) p (get_or o a 0) 0 not_p ∙ h.0, get_or-set_other w (get_or o a 0) x (get_or w a 0) 0 not_x ∙ h.1, rest))
  where
    joined_up : (ys : List ℕ) → IsOrder o w a ys → get_or w a 0 ≡ p → AllNew ys → holds ys p ≡ false → holds ys 0 ≡ false
        → ((y : ℕ) → holds ys y ≡ true → y < length w)
        → IsOrder (set o (get_or w a 0) (get_or o a 0)) (set w (get_or o a 0) (get_or w a 0)) p ys
    joined_up ys u before n1 out z_out pl =
        let first : ℕ = first_of ys in
        let at = order_first o w a ys u in
        let place : first < length w = grind (arith, nat_tests, pl first, first_within ys) in
        rehead o w (set o (get_or w a 0) (get_or o a 0)) (set w (get_or o a 0) (get_or w a 0)) a p ys u n1 z_out
        (ap (λ i. get_or (set o i (get_or o a 0)) p 0) before ∙ get_or-set_same o p (get_or o a 0) 0 (places p (first_in p (x ∷ xs))) ∙ at.0)
        (ap (λ i. get_or (set w i (get_or w a 0)) first 0) at.0 ∙ get_or-set_same w first (get_or w a 0) 0 place ∙ before)
        (λ z m. get_or-set_other o (get_or w a 0) z (get_or o a 0) 0 (λ s. differ ys z p m out (s ∙ before)))
        (λ z m ne. get_or-set_other w (get_or o a 0) z (get_or w a 0) 0 (λ s. ne (s ∙ at.0)))
