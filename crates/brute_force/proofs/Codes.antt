-- Each list of digits is that of a code.
use Rattle.graph_theory.proofs.Common.{◌≡◌, ℕ, zero, suc, ◌+◌, ◌*◌, ◌/◌, ◌%◌, ◌<◌, ◌≤◌, List, [], ◌∷◌, length, slice_index, drop, ap, sym, ◌∙◌}
use Rattle.graph_theory.proofs.Common.{refl, arith, mul-le-mul, mod-mul-add, div-mul-add}
use Rattle.brute_force.specs.Digits.{digits, digit_lists}

-- one digit for each place, at most the one of `mosts` there
abbrev pub AreUpTo : List ℕ → List ℕ → Type 0
AreUpTo [] [] = Unit {0}
AreUpTo (most ∷ mosts) (d ∷ ds) = (d ≤ most) × AreUpTo mosts ds
AreUpTo mosts ds = ⊥

pub up_to : (mosts ds : List ℕ) → length ds ≡ length mosts → ((k : ℕ) → k < length ds → slice_index ds k ≤ slice_index mosts k) → AreUpTo mosts ds
up_to [] [] size each = tt
up_to [] (d ∷ ds) size each = absurd (omega (arith, size))
up_to (m ∷ ms) [] size each = absurd (omega (arith, size))
up_to (m ∷ ms) (d ∷ ds) size each = (each 0 (omega arith), up_to ms ds (omega (arith, size)) (λ k b. each (suc k) (omega arith)))

-- the number with these digits
abbrev pub code_of : List ℕ → List ℕ → ℕ
code_of [] ds = 0
code_of (most ∷ mosts) [] = 0
code_of (most ∷ mosts) (d ∷ ds) = code_of mosts ds * (most + 1) + d

pub code_of-below : (mosts ds : List ℕ) → AreUpTo mosts ds → code_of mosts ds < digit_lists mosts
code_of-below [] [] h = omega arith
code_of-below [] (d ∷ ds) h = absurd h
code_of-below (m ∷ ms) [] h = absurd h
code_of-below (m ∷ ms) (d ∷ ds) h =
    let rest : code_of ms ds + 1 ≤ digit_lists ms = (let before = code_of-below ms ds h.1 in omega (arith, before)) in
    let all : (code_of ms ds + 1) * (m + 1) ≤ digit_lists ms * (m + 1) = mul-le-mul rest (let same : m + 1 ≤ m + 1 = omega arith in same) in
    let first : d ≤ m = h.0 in
    let split : (code_of ms ds + 1) * (m + 1) ≡ code_of ms ds * (m + 1) + (m + 1) = omega arith in
    omega (arith, all, first, split)

pub digits-code_of : (mosts ds : List ℕ) → AreUpTo mosts ds → digits mosts (code_of mosts ds) ≡ ds
digits-code_of [] [] h = refl
digits-code_of [] (d ∷ ds) h = absurd h
digits-code_of (m ∷ ms) [] h = absurd h
digits-code_of (m ∷ ms) (d ∷ ds) h =
    let first : d ≤ m = h.0 in
    let below : d < m + 1 = omega arith in
    let digit : (code_of ms ds * (m + 1) + d) % (m + 1) ≡ d = mod-mul-add (code_of ms ds) (m + 1) d below in
    let left : (code_of ms ds * (m + 1) + d) / (m + 1) ≡ code_of ms ds = div-mul-add (code_of ms ds) (m + 1) d below in
    rw (digit, left) (ap (λ (l : List ℕ). d ∷ l) (digits-code_of ms ds h.1))

-- the lists of digits from a place on

pub some-lists : (mosts : List ℕ) → 1 ≤ digit_lists mosts
some-lists [] = omega arith
some-lists (m ∷ ms) =
    let rest = some-lists ms in
    let split : digit_lists ms * (m + 1) ≡ digit_lists ms * m + digit_lists ms = omega arith in
    omega (arith, rest, split)

pub lists-drop : (mosts : List ℕ) (k : ℕ) → k < length mosts → digit_lists (drop k mosts) ≡ digit_lists (drop (k + 1) mosts) * (slice_index mosts k + 1)
lists-drop [] k below = absurd (omega arith)
lists-drop (m ∷ ms) zero below = refl
lists-drop (m ∷ ms) (suc k) below = let next : suc k + 1 ≡ suc (k + 1) = omega arith in rw next (lists-drop ms k (omega arith))

pub lists-on : (mosts : List ℕ) (k total most : ℕ) → k < length mosts → most ≡ slice_index mosts k → digit_lists (drop k mosts) * total ≡ digit_lists mosts
    → digit_lists (drop (k + 1) mosts) * (total * (most + 1)) ≡ digit_lists mosts
lists-on mosts k total most below is before =
    let step = lists-drop mosts k below in
    let rest = digit_lists (drop (k + 1) mosts) in
    let here : digit_lists (drop k mosts) ≡ rest * (most + 1) = step ∙ ap (λ (x : ℕ). rest * (x + 1)) (sym is) in
    let turned : rest * (total * (most + 1)) ≡ rest * (most + 1) * total = omega arith in
    turned ∙ (ap (λ (x : ℕ). x * total) (sym here) ∙ before)

pub lists-many : (mosts : List ℕ) (rest total limit : ℕ) → 1 ≤ rest → limit < total → rest * total ≡ digit_lists mosts → limit < digit_lists mosts
lists-many mosts rest total limit some many is =
    let once : 1 * total ≤ rest * total = mul-le-mul some (let same : total ≤ total = omega arith in same) in
    omega (arith, once, is, many)
