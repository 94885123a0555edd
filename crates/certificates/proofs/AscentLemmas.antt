-- Lists that ascend.
use Rattle.graph_theory.proofs.Common.{◌≡◌, ℕ, zero, suc, ◌+◌, ◌-◌, ◌<◌, ◌≤◌, ℤ, pos, ◌+ℤ◌, ◌<ℤ◌, ◌≤ℤ◌, ap, true, List, [], ◌∷◌, length}
use Rattle.graph_theory.proofs.Common.{get_or, arith, int_lt, dec_lt, and_parts, ints}
use Rattle.doc_format.specs.Form.{ascends}
use Rattle.doc_format.proofs.InOrder.{ascends_tail}

pub int_lt-true : (a b : ℤ) → int_lt a b ≡ true → a <ℤ b
int_lt-true a b h = grind (arith, ints)

head_below : (z : ℤ) (zs : List ℤ) → ascends (z ∷ zs) ≡ true → (k : ℕ) → k < length zs → z <ℤ get_or zs k (pos 0)
head_below z [] h k below = absurd (omega arith)
head_below z (y ∷ zs) h zero below = int_lt-true z y (and_parts (int_lt z y) (ascends (y ∷ zs)) h).0
head_below z (y ∷ zs) h (suc k) below =
    let parts = and_parts (int_lt z y) (ascends (y ∷ zs)) h in
    let first : z <ℤ y = int_lt-true z y parts.0 in
    let rest : y <ℤ get_or zs k (pos 0) = head_below y zs parts.1 k (omega arith) in
    omega (arith, ints)

-- an earlier number is below a later one
pub ascends-below : (zs : List ℤ) → ascends zs ≡ true → (j k : ℕ) → j < k → k < length zs → get_or zs j (pos 0) <ℤ get_or zs k (pos 0)
ascends-below [] h j k earlier below = absurd (omega arith)
ascends-below (z ∷ zs) h j zero earlier below = absurd (omega arith)
ascends-below (z ∷ zs) h zero (suc k) earlier below = head_below z zs h k (omega arith)
ascends-below (z ∷ zs) h (suc j) (suc k) earlier below = ascends-below zs (ascends_tail z zs h) j k (omega arith) (omega arith)

-- an ascending list of numbers from 1 on: its number at a place is above the place
at_least : (zs : List ℤ) → ascends zs ≡ true → ((k : ℕ) → k < length zs → pos 1 ≤ℤ get_or zs k (pos 0)) → (k : ℕ) → k < length zs → pos (k + 1) ≤ℤ get_or zs k (pos 0)
at_least zs ascending low zero below = low 0 below
at_least zs ascending low (suc k) below =
    let before : pos (k + 1) ≤ℤ get_or zs k (pos 0) = at_least zs ascending low k (omega arith) in
    let more : get_or zs k (pos 0) <ℤ get_or zs (suc k) (pos 0) = ascends-below zs ascending k (suc k) (omega arith) below in
    omega (arith, ints)

-- and of numbers up to n: as far from the end as its number is below n
at_most : (zs : List ℤ) (n : ℕ) → ascends zs ≡ true → ((k : ℕ) → k < length zs → get_or zs k (pos 0) ≤ℤ pos n) → (j k : ℕ) → k + suc j ≡ length zs → (get_or zs k (pos 0) +ℤ pos j) ≤ℤ pos n
at_most zs n ascending high zero k last =
    let top : get_or zs k (pos 0) ≤ℤ pos n = high k (omega arith) in
    omega (arith, ints)
at_most zs n ascending high (suc j) k place =
    let after : (get_or zs (suc k) (pos 0) +ℤ pos j) ≤ℤ pos n = at_most zs n ascending high j (suc k) (omega arith) in
    let more : get_or zs k (pos 0) <ℤ get_or zs (suc k) (pos 0) = ascends-below zs ascending k (suc k) (omega arith) (omega arith) in
    omega (arith, ints)

-- as many as n: each number is at its place
pub at_place : (zs : List ℤ) (n : ℕ) → ascends zs ≡ true → ((k : ℕ) → k < length zs → pos 1 ≤ℤ get_or zs k (pos 0)) → ((k : ℕ) → k < length zs → get_or zs k (pos 0) ≤ℤ pos n) →
    length zs ≡ n → (k : ℕ) → k < n → get_or zs k (pos 0) ≡ pos (k + 1)
at_place zs n ascending low high size k below =
    let from : pos (k + 1) ≤ℤ get_or zs k (pos 0) = at_least zs ascending low k (omega arith) in
    let to : (get_or zs k (pos 0) +ℤ pos (n - suc k)) ≤ℤ pos n = at_most zs n ascending high (n - suc k) k (omega arith) in
    omega (arith, ints)

-- no more than n
few : (zs : List ℤ) (n : ℕ) → ascends zs ≡ true → ((k : ℕ) → k < length zs → pos 1 ≤ℤ get_or zs k (pos 0)) → ((k : ℕ) → k < length zs → get_or zs k (pos 0) ≤ℤ pos n) → length zs ≤ n
few [] n ascending low high = omega arith
few (z ∷ zs) n ascending low high =
    let last : pos (length zs + 1) ≤ℤ get_or (z ∷ zs) (length zs) (pos 0) = at_least (z ∷ zs) ascending low (length zs) (omega arith) in
    let top : get_or (z ∷ zs) (length zs) (pos 0) ≤ℤ pos n = high (length zs) (omega arith) in
    omega (arith, ints)

-- where all numbers from 1 to v are there, v is at most the place of v, from 1
far : (zs : List ℤ) (n : ℕ) → ascends zs ≡ true → ((v : ℕ) → 1 ≤ v → v ≤ n → (k : ℕ) × (k < length zs) × (get_or zs k (pos 0) ≡ pos v)) → (v k : ℕ) → v ≤ n → k < length zs →
    get_or zs k (pos 0) ≡ pos v → v ≤ k + 1
far zs n ascending there zero k high below is = omega arith
far zs n ascending there (suc zero) k high below is = omega arith
far zs n ascending there (suc (suc v)) k high below is =
    let other = there (suc v) (omega arith) (omega arith) in
    let before : suc v ≤ other.0 + 1 = far zs n ascending there (suc v) other.0 (omega arith) other.1 other.2 in
    let one : other.0 < length zs = other.1 in
    let is_one : get_or zs other.0 (pos 0) ≡ pos (suc v) = other.2 in
    elim (dec_lt other.0 k) [
      | yes h ↦ omega arith
      | no h ↦ elim (dec_lt k other.0) [
        | yes g ↦ (let more : get_or zs k (pos 0) <ℤ get_or zs other.0 (pos 0) = ascends-below zs ascending k other.0 g one in absurd (omega (arith, ints)))
        | no g ↦ (let same : k ≡ other.0 = omega arith in let equal : get_or zs k (pos 0) ≡ get_or zs other.0 (pos 0) =
            ap (λ (p : ℕ). get_or zs p (pos 0)) same in absurd (omega (arith, ints)))
      ]
    ]

-- all numbers from 1 to n, ascending: there are n
pub as_many : (zs : List ℤ) (n : ℕ) → ascends zs ≡ true → ((k : ℕ) → k < length zs → pos 1 ≤ℤ get_or zs k (pos 0)) → ((k : ℕ) → k < length zs → get_or zs k (pos 0) ≤ℤ pos n) →
    ((v : ℕ) → 1 ≤ v → v ≤ n → (k : ℕ) × (k < length zs) × (get_or zs k (pos 0) ≡ pos v)) → length zs ≡ n
as_many zs zero ascending low high there =
    let most : length zs ≤ 0 = few zs 0 ascending low high in
    omega arith
as_many zs (suc n) ascending low high there =
    let most : length zs ≤ suc n = few zs (suc n) ascending low high in
    let last = there (suc n) (omega arith) (omega arith) in
    let place : suc n ≤ last.0 + 1 = far zs (suc n) ascending there (suc n) last.0 (omega arith) last.1 last.2 in
    let below : last.0 < length zs = last.1 in
    omega arith
