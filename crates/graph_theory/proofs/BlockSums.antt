-- Lemmas on sums over blocks of places and over rows, and on sums of terms that pass a test.
use Rattle.std.proofs.Common.{◌≡◌, ◌≢◌, ℕ, zero, suc, ◌+◌, ◌*◌, ◌-◌, ◌<◌, ◌≤◌, Bool, true, false, cond, eqb, ℤ, pos, refl, ap, sym, ◌∙◌, inl, inr}
use Rattle.std.proofs.Common.{arith}
use Rattle.std.proofs.lemmas.Bool.{cases_eq, cases_lt, cases_order, eq-eqb, ne_eqb}
use Rattle.graph_theory.specs.Sums.{sum_to, int_sum_to}
use Rattle.graph_theory.proofs.SumLemmas.{sum_to-longer, sum_to-same, sum_to-add, int_sum_to-same, sum_to-zero, int_sum_to-zero, sum_to-append, sum_to-more}

-- terms that are all 0
pub sum_to-none : (f : ℕ → ℕ) (n : ℕ) → ((k : ℕ) → k < n → f k ≡ 0) → sum_to f n ≡ 0
sum_to-none f n h = sum_to-same f (λ _. 0) n h ∙ sum_to-zero n

pub int_sum_to-none : (f : ℕ → ℤ) (n : ℕ) → ((k : ℕ) → k < n → f k ≡ pos 0) → int_sum_to f n ≡ pos 0
int_sum_to-none f n h = int_sum_to-same f (λ _. pos 0) n h ∙ int_sum_to-zero n

pub sum_to-const : (c n : ℕ) → sum_to (λ _. c) n ≡ n * c
sum_to-const c zero = omega arith
sum_to-const c (suc n) = omega (arith, sum_to-const c n)

-- terms that are all 1
pub sum_to-ones : (f : ℕ → ℕ) (n : ℕ) → ((k : ℕ) → k < n → f k ≡ 1) → sum_to f n ≡ n
sum_to-ones f n h = sum_to-same f (λ _. 1) n h ∙ sum_to-const 1 n ∙ (let e : n * 1 ≡ n = omega arith in e)

-- terms that are two
pub sum_to-both : (f g h : ℕ → ℕ) (n : ℕ) → ((k : ℕ) → k < n → f k ≡ g k + h k) → sum_to f n ≡ sum_to g n + sum_to h n
sum_to-both f g h n each = sum_to-same f _ n each ∙ sum_to-add g h n

pub sum_to-grows : (f : ℕ → ℕ) (i n : ℕ) → i < n → (sum_to f i + f i) ≤ sum_to f n
sum_to-grows f i n h = omega (arith, sum_to-more f i, sum_to-longer f (i + 1) n (omega arith))

-- the sum over all places is that over the blocks
pub sum_to-blocks : (size f : ℕ → ℕ) (n : ℕ) → sum_to f (sum_to size n) ≡ sum_to (λ k. sum_to (λ r. f (sum_to size k + r)) (size k)) n
sum_to-blocks size f zero = refl
sum_to-blocks size f (suc n) = omega (arith, sum_to-append f (sum_to size n) (size n), sum_to-blocks size f n)

-- the sum over the places of m rows of n
pub sum_to-rows : (f : ℕ → ℕ) (m n : ℕ) → sum_to f (m * n) ≡ sum_to (λ a. sum_to (λ j. f (a * n + j)) n) m
sum_to-rows f m n = ap (sum_to f) (sym (sum_to-const n m)) ∙ sum_to-blocks (λ _. n) f m ∙ sum_to-same _ _ m (λ a _. rw (sum_to-const n a) refl)

-- a place lies in one block
pub record IsIn (size : ℕ → ℕ) (n k : ℕ) : Type 0 where
  pub block : ℕ
  pub place : ℕ
  pub block_low : block < n
  pub place_low : place < size block
  pub is : sum_to size block + place ≡ k

pub find_block : (size : ℕ → ℕ) (n k : ℕ) → k < sum_to size n → IsIn size n k
find_block size zero k h = absurd (omega arith)
find_block size (suc n) k h =
    elim (cases_lt k (sum_to size n)) [
      | inl below ↦
          let found = find_block size n k below in
          let low = found.block_low in
          record { block = found.block; place = found.place; block_low = omega arith; place_low = found.place_low; is = found.is }
      | inr past ↦ record { block = n; place = k - sum_to size n; block_low = omega arith; place_low = omega arith; is = omega arith }
    ]

-- .. and in no other
pub block-once : (size : ℕ → ℕ) (s t a b : ℕ) → a < size s → b < size t → sum_to size s + a ≡ sum_to size t + b → s ≡ t
block-once size s t a b in_s in_t e =
    elim (cases_order s t) [
      | inl h ↦ h
      | inr (inl h) ↦ let grows = sum_to-grows size s t h in absurd (omega (arith, grows, in_s, e))
      | inr (inr h) ↦ let grows = sum_to-grows size t s h in absurd (omega (arith, grows, in_t, e))
    ]

-- all terms but one are 0

pub sum_to-only : (f : ℕ → ℕ) (i n : ℕ) → i < n → ((k : ℕ) → k < n → k ≢ i → f k ≡ 0) → sum_to f n ≡ f i
sum_to-only f i n b h =
    let e : n ≡ i + 1 + (n - 1 - i) = omega arith in
    let front = sum_to-none f i (λ k l. h k (omega arith) (λ x. omega arith)) in
    let back = sum_to-none (λ k. f (i + 1 + k)) (n - 1 - i) (λ k l. h (i + 1 + k) (omega arith) (λ x. omega arith)) in
    omega (arith, ap (sum_to f) e, sum_to-append f (i + 1) (n - 1 - i), sum_to-more f i, front, back)

-- a test counts at most 1
pub test-small : (t : Bool) → cond {A = ℕ} t 1 0 ≤ 1
test-small true = omega arith
test-small false = omega arith

-- 0 whether or not the test passes
pub cond_off : (t : Bool) → cond {A = ℕ} t 0 0 ≡ 0
cond_off true = refl
cond_off false = refl

-- a test that does not depend on the place
pub sum_to-cond : (t : Bool) (f : ℕ → ℕ) (n : ℕ) → sum_to (λ k. cond t (f k) 0) n ≡ cond t (sum_to f n) 0
sum_to-cond true f n = refl
sum_to-cond false f n = sum_to-zero n

-- no term passes the test
pub sum_to-miss : (f : ℕ → ℕ) (p n : ℕ) → n ≤ p → sum_to (λ j. cond (eqb j p) (f j) 0) n ≡ 0
sum_to-miss f p n h = sum_to-none _ n (λ j b. rw (ne_eqb j p (λ e. omega arith)) refl)

-- the one term that passes the test, also turned round

pub sum_to-hit : (f : ℕ → ℕ) (p n : ℕ) → p < n → sum_to (λ j. cond (eqb j p) (f j) 0) n ≡ f p
sum_to-hit f p n h = sum_to-only _ p n h (λ k _ d. rw (ne_eqb k p d) refl) ∙ rw (eq-eqb p p refl) refl

pub sum_to-hit_from : (f : ℕ → ℕ) (p n : ℕ) → p < n → sum_to (λ j. cond (eqb p j) (f j) 0) n ≡ f p
sum_to-hit_from f p n h = sum_to-only _ p n h (λ k _ d. rw (ne_eqb p k (λ e. d (sym e))) refl) ∙ rw (eq-eqb p p refl) refl

-- what holds at an end holds at the place that is this end
pub at-same : (f : ℕ → ℕ) (u t : ℕ) → cond (eqb u t) (f u) 0 ≡ cond (eqb u t) (f t) 0
at-same f u t = elim (cases_eq u t) [ inl e ↦ ap (λ v. cond (eqb u t) (f v) 0) e | inr d ↦ rw (ne_eqb u t d) refl ]
