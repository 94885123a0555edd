-- Every list of numbers has the same members as some ascending one, and how often an ascending one
-- of those that pass a test lists each.
use Rattle.graph_theory.proofs.Common.{◌≡◌, ℕ, suc, ◌+◌, ◌<◌, Bool, true, false, ◌&&◌, eqb, List, [], ◌∷◌, length, get_or, refl, ap, sym, ◌∙◌, inl, inr}
use Rattle.graph_theory.proofs.Common.{subst, arith, range_with_len, IsStrictlyIncreasing, eqb-true, or_cases, true≢false, length-range_with_len, get_or-range_with_len}
use Rattle.graph_theory.proofs.Common.{IsStrictlyIncreasing-filter, any-filter_same, DualSet, AreSame, AreAscending, holds, holds_at, cond, ◌≤◌}
use Rattle.std.proofs.Common.{filter}
use Rattle.graph_theory.proofs.Passing.{passing, passing-ascends, passing-holds}
use Rattle.gadget_base.proofs.Common.{times, ascending-times}

-- above each member
abbrev pub top : List ℕ → ℕ
top [] = 0
top (x ∷ xs) = suc x + top xs

pub below_top : (xs : List ℕ) (v : ℕ) → holds xs v ≡ true → v < top xs
below_top [] v h = absurd (true≢false (sym h))
below_top (x ∷ xs) v h = elim (or_cases (eqb x v) (holds xs v) h) [
  | inl on ↦ let same : x ≡ v = eqb-true x v on in omega (arith, same)
  | inr later ↦ let rest : v < top xs = below_top xs v later in omega (arith, rest)
]

pub range-up : (n : ℕ) → IsStrictlyIncreasing (range_with_len 0 n)
range-up n k h =
    let long : length (range_with_len 0 n) ≡ n = length-range_with_len 0 n in
    let here : get_or (range_with_len 0 n) k 0 ≡ 0 + k = get_or-range_with_len 0 n k 0 (omega arith) in
    let next : get_or (range_with_len 0 n) (k + 1) 0 ≡ 0 + (k + 1) = get_or-range_with_len 0 n (k + 1) 0 (omega arith) in
    omega arith

pub range-holds : (n v : ℕ) → v < n → holds (range_with_len 0 n) v ≡ true
range-holds n v h =
    let long : length (range_with_len 0 n) ≡ n = length-range_with_len 0 n in
    let here : get_or (range_with_len 0 n) v 0 ≡ 0 + v = get_or-range_with_len 0 n v 0 h in
    let same : get_or (range_with_len 0 n) v 0 ≡ v = omega arith in
    subst (λ (w : ℕ). holds (range_with_len 0 n) w ≡ true) same (holds_at (range_with_len 0 n) v 0 (omega arith))

-- the members, ascending
abbrev pub ascending : List ℕ → List ℕ
ascending xs = filter (holds xs) (range_with_len 0 (top xs))

pub both : (a b : Bool) → (a ≡ true → b ≡ true) → (a && b) ≡ a
both true b h = h refl
both false b h = refl

ascending-same : (xs : List ℕ) → AreSame (ascending xs) xs
ascending-same xs v =
    any-filter_same (λ m. eqb m v) (holds xs) (holds xs v) (λ k t. ap (holds xs) (eqb-true k v t)) (range_with_len 0 (top xs))
    ∙ both (holds xs v) (holds (range_with_len 0 (top xs)) v) (λ t. range-holds (top xs) v (below_top xs v t))

ascending-up : (xs : List ℕ) → IsStrictlyIncreasing (ascending xs)
ascending-up xs = IsStrictlyIncreasing-filter (holds xs) (range_with_len 0 (top xs)) (range-up (top xs))

-- so the sets of a solution have a listing
pub listing : (sets : List DualSet) → (lines : List DualSet) × AreAscending sets lines
listing [] = ([], refl)
listing (s ∷ sets) =
    let rest = listing sets in
    let t : DualSet = record { dual = s.dual; members = ascending s.members } in
    (t ∷ rest.0, (t, rest.0, refl, refl, ascending-same s.members, ascending-up s.members, rest.1))

-- how often each number that passes is listed
pub passing-times : (p : ℕ → Bool) (k v : ℕ) → 1 ≤ v → v ≤ k → times (passing p k) v ≡ cond (p v) 1 0
passing-times p k v low high = ascending-times (passing p k) v (passing-ascends p k) ∙ ap (λ (t : Bool). cond t 1 0) (passing-holds p k v low high)
