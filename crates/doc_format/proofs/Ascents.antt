-- What a look at each number and the next says of ascending numbers.
use Rattle.graph_theory.proofs.Common.{◌≡◌, ◌∙◌, refl, sym, ap, arith, ℕ, zero, suc, ◌+◌, ◌<◌, ℤ, pos, Bool, true, false, List, [], ◌∷◌, length, get_or, int_lt}
use Rattle.graph_theory.proofs.Common.{AllAdjacentBelow, IsAllAdjacentAnswer, and_from, and_left, and_right}
use Rattle.doc_format.specs.Parts.{ascends}

-- an answer on two neighbours is one on the same two in the list without its head
without_head : (x : ℤ) (zs : List ℤ) (k : ℕ) (d : ℤ) (b : Bool) → b ≡ int_lt (get_or (x ∷ zs) (suc k) d) (get_or (x ∷ zs) (suc k + 1) d)
    → b ≡ int_lt (get_or zs k d) (get_or zs (k + 1) d)
without_head x zs k d b is =
    let place : suc k + 1 ≡ suc (k + 1) = omega arith in
    is ∙ ap (λ n. int_lt (get_or zs k d) (get_or (x ∷ zs) n d)) place

all_rise : (zs : List ℤ) → AllAdjacentBelow (λ x y. true ≡ int_lt x y) zs (length zs) → ascends zs ≡ true
all_rise [] rise = refl
all_rise (x ∷ []) rise = refl
all_rise (x ∷ y ∷ zs) rise =
    let rest = all_rise (y ∷ zs) (λ k d below. without_head x (y ∷ zs) k d true (rise (suc k) d (omega arith))) in
    and_from (int_lt x y) (ascends (y ∷ zs)) (sym (rise 0 (pos 0) (omega arith))) rest

one_falls : (zs : List ℤ) (k : ℕ) → k + 1 < length zs → false ≡ int_lt (get_or zs k (pos 0)) (get_or zs (k + 1) (pos 0)) → ascends zs ≡ false
one_falls [] k below fall = absurd (omega arith)
one_falls (x ∷ []) k below fall = absurd (omega arith)
one_falls (x ∷ y ∷ zs) zero below fall = and_left (int_lt x y) (ascends (y ∷ zs)) (sym fall)
one_falls (x ∷ y ∷ zs) (suc k) below fall =
    and_right (int_lt x y) (ascends (y ∷ zs)) (one_falls (y ∷ zs) k (omega arith) (without_head x (y ∷ zs) k (pos 0) false fall))

pub ascends_by : (zs : List ℤ) (b : Bool) → IsAllAdjacentAnswer (λ x y t. t ≡ int_lt x y) zs b → b ≡ ascends zs
ascends_by zs true rise = sym (all_rise zs rise)
ascends_by zs false fall = sym (one_falls zs fall.0 fall.1 (fall.2 (pos 0)))
