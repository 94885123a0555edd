-- Sums of lengths that stay within the limit, and how the lengths above a node change from one node to the next.
use Rattle.mb_problem.proofs.Common.{◌≡◌, ℕ, zero, suc, ◌+◌, ◌<◌, ◌≤◌, ℤ, pos, ◌+ℤ◌, ◌≤ℤ◌, Bool, true, false, ◌&&◌, cond, eqb, ltb, leb, refl, ap, ◌∙◌, inl, inr, arith, ints}
use Rattle.mb_problem.proofs.Common.{List, length, slice_index, cases_eq, cases_lt, cond-true, cond-false, and_left, and_right, and_from, eq-eqb, ne_eqb, lt-ltb, le-ltb, le-leb}
use Rattle.mb_problem.proofs.Common.{int_sum_to, int_sum_to-same, int_sum_to-le, int_sum_to-add, int_sum_to-zero}
use Rattle.std.proofs.lemmas.Bool.{lt-leb}
use Rattle.mb_problem.proofs.Common.{subst}
use Rattle.join_check.specs.Checks.{at, AreLengths, ArePostorder, AreStarts, IsLength, held_by, started, topped}
use Rattle.join_check.proofs.Counted.{one-on, one-off}

cond-low : (t : Bool) (l : ℤ) → pos 0 ≤ℤ l → pos 0 ≤ℤ cond t l (pos 0)
cond-low true l h = h
cond-low false l h = omega (arith, ints)

cond-high : (t : Bool) (l : ℤ) → pos 0 ≤ℤ l → cond t l (pos 0) ≤ℤ l
cond-high true l h = omega (arith, ints)
cond-high false l h = h

sum-low : (f : ℕ → ℤ) (n : ℕ) → ((b : ℕ) → b < n → pos 0 ≤ℤ f b) → pos 0 ≤ℤ int_sum_to f n
sum-low f zero h = omega (arith, ints)
sum-low f (suc n) h =
    let last : pos 0 ≤ℤ f n = h n (omega arith) in
    omega (arith, ints, sum-low f n (λ b low. h b (omega arith)), last)

sum-grows : (f : ℕ → ℤ) (m n : ℕ) → m ≤ n → ((b : ℕ) → b < n → pos 0 ≤ℤ f b) → int_sum_to f m ≤ℤ int_sum_to f n
sum-grows f m zero h low = let e : m ≡ 0 = omega arith in (let s : int_sum_to f m ≡ int_sum_to f 0 = ap (int_sum_to f) e in omega (arith, ints, s))
sum-grows f m (suc n) h low =
    let last : pos 0 ≤ℤ f n = low n (omega arith) in
    elim (cases_eq m (suc n)) [
      | inl e ↦ let s : int_sum_to f m ≡ int_sum_to f (suc n) = ap (int_sum_to f) e in omega (arith, ints, s)
      | inr d ↦ omega (arith, ints, sum-grows f m n (omega arith) (λ b below. low b (omega arith)), last)
    ]

-- the first lengths together, and those of them that pass a test, stay within the limit
pub sum-small : (lengths : List ℤ) (m : ℕ) → AreLengths lengths → m ≤ length lengths → IsLength (int_sum_to (at lengths) m)
sum-small lengths m are h =
    (sum-low (at lengths) m (λ b low. are.from_zero b (omega arith)), omega (arith, ints, sum-grows (at lengths) m (length lengths) h are.from_zero, are.value_limit))

pub part-small : (lengths : List ℤ) (t : ℕ → Bool) (m : ℕ) → AreLengths lengths → m ≤ length lengths → IsLength (int_sum_to (λ b. cond (t b) (at lengths b) (pos 0)) m)
part-small lengths t m are h =
    let low = sum-low (λ b. cond (t b) (at lengths b) (pos 0)) m (λ b below. cond-low (t b) (at lengths b) (are.from_zero b (omega arith))) in
    let high = int_sum_to-le (λ b. cond (t b) (at lengths b) (pos 0)) (at lengths) m (λ b below. cond-high (t b) (at lengths b) (are.from_zero b (omega arith))) in
    let all = sum-small lengths m are h in
    (low, omega (arith, ints, high, all.1))

pub one-small : (lengths : List ℤ) (b : ℕ) → AreLengths lengths → b < length lengths → IsLength (at lengths b)
one-small lengths b are h =
    let low : pos 0 ≤ℤ at lengths b = are.from_zero b h in
    let front = sum-small lengths b are (omega arith) in
    let more = sum-small lengths (suc b) are (omega arith) in
    (low, omega (arith, ints, front.0, more.1))

-- a test that one place alone passes
int-miss : (f : ℕ → ℤ) (x n : ℕ) → n ≤ x → int_sum_to (λ b. cond (eqb b x) (f b) (pos 0)) n ≡ pos 0
int-miss f x n h =
    int_sum_to-same (λ b. cond (eqb b x) (f b) (pos 0)) (λ _. pos 0) n (λ b low. cond-false (eqb b x) (f b) (pos 0) (ne_eqb b x (λ e. omega arith))) ∙ int_sum_to-zero n

int-hit : (f : ℕ → ℤ) (x n : ℕ) → x < n → int_sum_to (λ b. cond (eqb b x) (f b) (pos 0)) n ≡ f x
int-hit f x zero h = absurd (omega arith)
int-hit f x (suc n) h =
    elim (cases_eq n x) [
      | inl e ↦
          let front = int-miss f x n (omega arith) in
          let last : cond (eqb n x) (f n) (pos 0) ≡ f n = cond-true (eqb n x) (f n) (pos 0) (eq-eqb n x e) in
          let same : f n ≡ f x = ap f e in
          omega (arith, ints, front, last, same)
      | inr d ↦
          let front = int-hit f x n (omega arith) in
          let last : cond (eqb n x) (f n) (pos 0) ≡ pos 0 = cond-false (eqb n x) (f n) (pos 0) (ne_eqb n x d) in
          omega (arith, ints, front, last)
    ]

-- from one node to the next

same-terms : (a b c d : Bool) (l : ℤ) → cond {A = ℕ} a 1 0 + cond b 1 0 ≡ cond c 1 0 + cond d 1 0 → cond a l (pos 0) +ℤ cond b l (pos 0) ≡ cond c l (pos 0) +ℤ cond d l (pos 0)
same-terms true true true true l h = refl
same-terms true true true false l h = absurd (omega arith)
same-terms true true false true l h = absurd (omega arith)
same-terms true true false false l h = absurd (omega arith)
same-terms true false true true l h = absurd (omega arith)
same-terms true false true false l h = refl
same-terms true false false true l h = omega (arith, ints)
same-terms true false false false l h = absurd (omega arith)
same-terms false true true true l h = absurd (omega arith)
same-terms false true true false l h = omega (arith, ints)
same-terms false true false true l h = refl
same-terms false true false false l h = absurd (omega arith)
same-terms false false true true l h = absurd (omega arith)
same-terms false false true false l h = absurd (omega arith)
same-terms false false false true l h = absurd (omega arith)
same-terms false false false false l h = refl

inside-on : (p b x : ℕ) → p < x → x ≤ b → cond {A = ℕ} (ltb p x && leb x b) 1 0 ≡ 1
inside-on p b x low high = one-on (ltb p x && leb x b) (and_from (ltb p x) (leb x b) (lt-ltb p x low) (le-leb x b high))

before-off : (p b x : ℕ) → x ≤ p → cond {A = ℕ} (ltb p x && leb x b) 1 0 ≡ 0
before-off p b x h = one-off (ltb p x && leb x b) (and_left (ltb p x) (leb x b) (le-ltb p x h))

after-off : (p b x : ℕ) → b < x → cond {A = ℕ} (ltb p x && leb x b) 1 0 ≡ 0
after-off p b x h = one-off (ltb p x && leb x b) (and_right (ltb p x) (leb x b) (lt-leb x b h))

-- a node that begins after p others and is b holds x + 1, or ends at x, just if it holds x, or begins after x others
next-tests : (p b x : ℕ) → p < b → cond {A = ℕ} (ltb p (x + 1) && leb (x + 1) b) 1 0 + cond (eqb b x) 1 0 ≡ cond (ltb p x && leb x b) 1 0 + cond (eqb p x) 1 0
next-tests p b x h =
    elim (cases_lt x p) [
      | inl early ↦ omega (
        arith,
        before-off p b (x + 1) (omega arith),
        one-off (eqb b x) (ne_eqb b x (λ e. omega arith)),
        before-off p b x (omega arith),
        one-off (eqb p x) (ne_eqb p x (λ e. omega arith)),
      )
      | inr late ↦ elim (cases_lt b x) [
        | inl past ↦ omega (
          arith,
          after-off p b (x + 1) (omega arith),
          one-off (eqb b x) (ne_eqb b x (λ e. omega arith)),
          after-off p b x past,
          one-off (eqb p x) (ne_eqb p x (λ e. omega arith)),
        )
        | inr within ↦ elim (cases_eq b x) [
          | inl e ↦ omega (
            arith,
            after-off p b (x + 1) (omega arith),
            one-on (eqb b x) (eq-eqb b x e),
            inside-on p b x (omega arith) within,
            one-off (eqb p x) (ne_eqb p x (λ s. omega arith)),
          )
          | inr d ↦ elim (cases_eq p x) [
            | inl e ↦ omega (arith, inside-on p b (x + 1) (omega arith) (omega arith), one-off (eqb b x) (ne_eqb b x d), before-off p b x (omega arith), one-on (eqb p x) (eq-eqb p x e))
            | inr o ↦ omega (
              arith,
              inside-on p b (x + 1) (omega arith) (omega arith),
              one-off (eqb b x) (ne_eqb b x d),
              inside-on p b x (omega arith) within,
              one-off (eqb p x) (ne_eqb p x o),
            )
          ]
        ]
      ]
    ]

pub no-length : (t : Bool) (l : ℤ) → l ≡ pos 0 → cond t l (pos 0) ≡ pos 0
no-length true l h = h
no-length false l h = refl

next-term : (lengths : List ℤ) (befores : List ℕ) (x b : ℕ) → AreLengths lengths → ArePostorder befores (length lengths) → b < length lengths
    → cond (held_by befores b (x + 1)) (at lengths b) (pos 0) +ℤ cond (eqb b x) (at lengths b) (pos 0)
    ≡ cond (held_by befores b x) (at lengths b) (pos 0) +ℤ cond (eqb (slice_index befores b) x) (at lengths b) (pos 0)
next-term lengths befores x b are order inside =
    elim (cases_eq b 0) [
      | inl e ↦
          let none : at lengths b ≡ pos 0 = ap (at lengths) e ∙ are.outside in
          omega (
            arith,
            ints,
            no-length (held_by befores b (x + 1)) (at lengths b) none,
            no-length (eqb b x) (at lengths b) none,
            no-length (held_by befores b x) (at lengths b) none,
            no-length (eqb (slice_index befores b) x) (at lengths b) none,
          )
      | inr d ↦ same-terms (held_by befores b (x + 1)) (eqb b x) (held_by befores b x) (eqb (slice_index befores b) x) (at lengths b)
          (next-tests (slice_index befores b) b x (order.earlier b (omega arith) inside))
    ]

pub next-top : (lengths : List ℤ) (befores : List ℕ) (x : ℕ) → AreLengths lengths → ArePostorder befores (length lengths) → x < length lengths
    → topped lengths befores (x + 1) +ℤ at lengths x ≡ topped lengths befores x +ℤ started lengths befores x
next-top lengths befores x are order inside =
    let n = length lengths in
    let next : ℕ → ℤ = λ b. cond (held_by befores b (x + 1)) (at lengths b) (pos 0) in
    let here : ℕ → ℤ = λ b. cond (held_by befores b x) (at lengths b) (pos 0) in
    let ends : ℕ → ℤ = λ b. cond (eqb b x) (at lengths b) (pos 0) in
    let begins : ℕ → ℤ = λ b. cond (eqb (slice_index befores b) x) (at lengths b) (pos 0) in
    let each = int_sum_to-same (λ b. next b +ℤ ends b) (λ b. here b +ℤ begins b) n (λ b low. next-term lengths befores x b are order low) in
    omega (arith, ints, each, int_sum_to-add next ends n, int_sum_to-add here begins n, int-hit (at lengths) x n inside)

pub first-top : (lengths : List ℤ) (befores : List ℕ) → topped lengths befores 0 ≡ pos 0
first-top lengths befores =
    int_sum_to-same (λ b. cond (held_by befores b 0) (at lengths b) (pos 0)) (λ _. pos 0) (length lengths)
    (λ b low. cond-false (held_by befores b 0) (at lengths b) (pos 0) (and_left (ltb (slice_index befores b) 0) (leb 0 b) (le-ltb (slice_index befores b) 0 (omega arith))))
    ∙ int_sum_to-zero (length lengths)

-- a node lies below the tops of all nodes that hold it, itself among them
pub top-above : (lengths : List ℤ) (befores : List ℕ) (x : ℕ) → AreLengths lengths → ArePostorder befores (length lengths) → x < length lengths → at lengths x ≤ℤ topped lengths befores x
top-above lengths befores x are order inside =
    let n = length lengths in
    let ends : ℕ → ℤ = λ b. cond (eqb b x) (at lengths b) (pos 0) in
    let here : ℕ → ℤ = λ b. cond (held_by befores b x) (at lengths b) (pos 0) in
    let le = int_sum_to-le ends here n (λ b low. elim (cases_eq b x) [
      | inl e ↦ elim (cases_eq b 0) [
        | inl z ↦
            let none : at lengths b ≡ pos 0 = ap (at lengths) z ∙ are.outside in
            omega (arith, ints, no-length (eqb b x) (at lengths b) none, no-length (held_by befores b x) (at lengths b) none)
        | inr d ↦
            let early = order.earlier b (omega arith) low in
            let own : cond (held_by befores b x) (at lengths b) (pos 0) ≡ at lengths b =
            cond-true (held_by befores b x) (at lengths b) (pos 0)
            (and_from (ltb (slice_index befores b) x) (leb x b) (lt-ltb (slice_index befores b) x (omega (arith, early, e))) (le-leb x b (omega (arith, e))))
            in
            omega (arith, ints, own, cond-high (eqb b x) (at lengths b) (are.from_zero b low))
      ]
      | inr d ↦
          let off : cond (eqb b x) (at lengths b) (pos 0) ≡ pos 0 = cond-false (eqb b x) (at lengths b) (pos 0) (ne_eqb b x d) in
          omega (arith, ints, off, cond-low (held_by befores b x) (at lengths b) (are.from_zero b low))
    ]) in
    omega (arith, ints, le, int-hit (at lengths) x n inside)

-- as many lists of the same length
pub order-of : (lengths : List ℤ) (befores : List ℕ) → length befores ≡ length lengths → ArePostorder befores (length befores) → ArePostorder befores (length lengths)
order-of lengths befores size order = subst (ArePostorder befores) size order

pub start-small : (lengths : List ℤ) (befores : List ℕ) (starts : List ℤ) (x : ℕ) → AreLengths lengths → AreStarts lengths befores starts → x < length lengths → IsLength (at starts x)
start-small lengths befores starts x are begin inside =
    let part = part-small lengths (λ b. eqb (slice_index befores b) x) (length lengths) are (omega arith) in
    let here = begin.each x inside in
    (omega (arith, ints, here, part.0), omega (arith, ints, here, part.1))
