use Rattle.certificates.proofs.Common.{◌≡◌, ℕ, ◌+◌, ◌<◌, ◌≤◌, nat_abs, ℤ, pos, ◌≤ℤ◌, ◌<ℤ◌, to_z, of_z, w64, List, ◌∷◌, ◌++◌, length, get_or}
use Rattle.certificates.proofs.Common.{drop, sym, ap, ◌∙◌, arith, ints, IsUpTo}
use Rattle.std.proofs.lemmas.List.{drop_more, append_assoc}

-- what is gathered so far and what is left, where the next item gives vs
pub gathered-more : {X Y : Type 0} (f : List X → List Y) (xs : List X) (k : ℕ) (x : X) (vs ys zs : List Y) → k < length xs → f xs ≡ ys ++ f (drop k xs) →
    f (get_or xs k x ∷ drop (k + 1) xs) ≡ vs ++ f (drop (k + 1) xs) → zs ≡ ys ++ vs → f xs ≡ zs ++ f (drop (k + 1) xs)
gathered-more {X} {Y} f xs k x vs ys zs inside so_far next longer =
    let rest : List Y = f (drop (k + 1) xs) in
    so_far ∙ ap (λ (us : List X). ys ++ f us) (drop_more xs k x inside) ∙ ap (λ (us : List Y). ys ++ us) next
    ∙ sym (append_assoc ys vs rest) ∙ ap (λ (us : List Y). us ++ rest) (sym longer)

-- a number that 32 bits hold, as the code passes it
pub record Passed (z : ℤ) : Type 0 where
  pub same : to_z w64 (of_z w64 z) ≡ z
  pub low : pos 0 ≤ℤ to_z w64 (of_z w64 z)
  pub high : to_z w64 (of_z w64 z) <ℤ pos (4294967296)

pub passed : (n : ℕ) (z : ℤ) → IsUpTo n z → n < 4294967296 → Passed z
passed n z within small =
    let low : pos 1 ≤ℤ z = within.low in
    let high : z ≤ℤ pos n = within.high in
    record { same = omega (arith, ints); low = omega (arith, ints); high = omega (arith, ints) }

pub number_within : (n v : ℕ) (z : ℤ) → IsUpTo n z → n < 4294967296 → v ≡ nat_abs (to_z w64 (of_z w64 z)) → (1 ≤ v) × (v ≤ n)
number_within n v z within small is =
    let low : pos 1 ≤ℤ z = within.low in
    let high : z ≤ℤ pos n = within.high in
    let number : v ≡ nat_abs z = is ∙ ap nat_abs (passed n z within small).same in
    (omega (arith, ints), omega (arith, ints))
