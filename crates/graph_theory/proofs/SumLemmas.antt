-- Lemmas on sums over the first numbers: same and lesser terms, sums of sums, factors, one term alone, two parts.
use Rattle.std.proofs.Common.{◌≡◌, ℕ, zero, suc, ◌+◌, ◌-◌, ◌*◌, ◌%◌, ◌<◌, ◌≤◌, ℤ, pos, ◌+ℤ◌, ◌*ℤ◌, ◌≤ℤ◌, neg_ℤ, Bool, true, false}
use Rattle.std.proofs.Common.{cond, eqb, refl, ap, sym, inl, inr, arith, add-one}
use Rattle.std.proofs.lemmas.Int.{ints}
use Rattle.std.proofs.lemmas.Bool.{cases_eq, eq-eqb, ne_eqb}
use Rattle.std.proofs.Math.Nat.{mul-le-mul_right}
use Rattle.graph_theory.specs.Sums.{sum_to, int_sum_to}

-- the same terms

pub sum_to-same : (f g : ℕ → ℕ) (n : ℕ) → ((k : ℕ) → k < n → f k ≡ g k) → sum_to f n ≡ sum_to g n
sum_to-same f g zero h = refl
sum_to-same f g (suc n) h =
    let last : f n ≡ g n = h n (omega arith) in
    omega (arith, sum_to-same f g n (λ k b. h k (omega arith)), last)

pub int_sum_to-same : (f g : ℕ → ℤ) (n : ℕ) → ((k : ℕ) → k < n → f k ≡ g k) → int_sum_to f n ≡ int_sum_to g n
int_sum_to-same f g zero h = refl
int_sum_to-same f g (suc n) h =
    let last : f n ≡ g n = h n (omega arith) in
    omega (arith, ints, int_sum_to-same f g n (λ k b. h k (omega arith)), last)

-- no term is greater

pub sum_to-le : (f g : ℕ → ℕ) (n : ℕ) → ((k : ℕ) → k < n → f k ≤ g k) → sum_to f n ≤ sum_to g n
sum_to-le f g zero h = omega arith
sum_to-le f g (suc n) h =
    let last : f n ≤ g n = h n (omega arith) in
    omega (arith, sum_to-le f g n (λ k b. h k (omega arith)), last)

pub int_sum_to-le : (f g : ℕ → ℤ) (n : ℕ) → ((k : ℕ) → k < n → f k ≤ℤ g k) → int_sum_to f n ≤ℤ int_sum_to g n
int_sum_to-le f g zero h = omega (arith, ints)
int_sum_to-le f g (suc n) h =
    let last : f n ≤ℤ g n = h n (omega arith) in
    omega (arith, ints, int_sum_to-le f g n (λ k b. h k (omega arith)), last)

-- constant terms

pub sum_to-zero : (n : ℕ) → sum_to (λ _. 0) n ≡ 0
sum_to-zero zero = refl
sum_to-zero (suc n) = omega (arith, sum_to-zero n)

pub sum_to-one : (n : ℕ) → sum_to (λ _. 1) n ≡ n
sum_to-one zero = refl
sum_to-one (suc n) = omega (arith, sum_to-one n)

pub int_sum_to-zero : (n : ℕ) → int_sum_to (λ _. pos 0) n ≡ pos 0
int_sum_to-zero zero = refl
int_sum_to-zero (suc n) = omega (arith, ints, int_sum_to-zero n)

pub int_sum_to-one : (n : ℕ) → int_sum_to (λ _. pos 1) n ≡ pos n
int_sum_to-one zero = refl
int_sum_to-one (suc n) = omega (arith, ints, int_sum_to-one n)

-- sums of two terms

pub sum_to-add : (f g : ℕ → ℕ) (n : ℕ) → sum_to (λ k. f k + g k) n ≡ sum_to f n + sum_to g n
sum_to-add f g zero = refl
sum_to-add f g (suc n) = omega (arith, sum_to-add f g n)

pub int_sum_to-add : (f g : ℕ → ℤ) (n : ℕ) → int_sum_to (λ k. f k +ℤ g k) n ≡ int_sum_to f n +ℤ int_sum_to g n
int_sum_to-add f g zero = refl
int_sum_to-add f g (suc n) = omega (arith, ints, int_sum_to-add f g n)

-- two sums in either order

pub sum_to-swap : (f : ℕ → ℕ → ℕ) (m n : ℕ) → sum_to (λ k. sum_to (f k) n) m ≡ sum_to (λ j. sum_to (λ k. f k j) m) n
sum_to-swap f zero n = sym (sum_to-zero n)
sum_to-swap f (suc m) n =
    omega (arith, sum_to-swap f m n, sum_to-add (λ j. sum_to (λ k. f k j) m) (f m) n)

pub int_sum_to-swap : (f : ℕ → ℕ → ℤ) (m n : ℕ) → int_sum_to (λ k. int_sum_to (f k) n) m ≡ int_sum_to (λ j. int_sum_to (λ k. f k j) m) n
int_sum_to-swap f zero n = sym (int_sum_to-zero n)
int_sum_to-swap f (suc m) n =
    omega (arith, ints, int_sum_to-swap f m n, int_sum_to-add (λ j. int_sum_to (λ k. f k j) m) (f m) n)

-- a natural factor

pub times-suc : (a : ℕ) (b : ℤ) → pos (suc a) *ℤ b ≡ pos a *ℤ b +ℤ b
times-suc a b = omega (arith, ints)

pub times-add : (a : ℕ) (b c : ℤ) → pos a *ℤ (b +ℤ c) ≡ pos a *ℤ b +ℤ pos a *ℤ c
times-add zero b c = omega (arith, ints)
times-add (suc a) b c = omega (arith, ints, times-add a b c, times-suc a b, times-suc a c, times-suc a (b +ℤ c))

-- one term, each time
pub int_sum_to-constant : (c : ℤ) (n : ℕ) → int_sum_to (λ _. c) n ≡ pos n *ℤ c
int_sum_to-constant c zero = omega (arith, ints)
int_sum_to-constant c (suc n) = omega (arith, ints, int_sum_to-constant c n, times-suc n c)

pub plus-times : (a b : ℕ) (c : ℤ) → pos (a + b) *ℤ c ≡ pos a *ℤ c +ℤ pos b *ℤ c
plus-times a b c = omega (arith, ints)

pub times-times : (a b : ℕ) (c : ℤ) → pos (a * b) *ℤ c ≡ pos a *ℤ (pos b *ℤ c)
times-times zero b c = omega (arith, ints)
times-times (suc a) b c =
    let more : suc a * b ≡ a * b + b = omega arith in
    rw more (omega (arith, ints, times-times a b c, plus-times (a * b) b c, times-suc a (pos b *ℤ c)))

pub times-two : (a : ℕ) (b : ℤ) → pos a *ℤ (pos 2 *ℤ b) ≡ pos 2 *ℤ (pos a *ℤ b)
times-two a b =
    let doubled : pos 2 *ℤ b ≡ b +ℤ b = omega (arith, ints) in
    rw doubled (omega (arith, ints, times-add a b b))

pub times-neg : (a : ℕ) (b : ℤ) → pos a *ℤ neg_ℤ b ≡ neg_ℤ (pos a *ℤ b)
times-neg zero b = omega (arith, ints)
times-neg (suc a) b = omega (arith, ints, times-neg a b, times-suc a b, times-suc a (neg_ℤ b))

pub times-le : (a : ℕ) (b c : ℤ) → b ≤ℤ c → (pos a *ℤ b) ≤ℤ (pos a *ℤ c)
times-le zero b c h = omega (arith, ints)
times-le (suc a) b c h = omega (arith, ints, times-le a b c h, times-suc a b, times-suc a c)

-- at least once what is not below 0
pub at_least_once : (a : ℕ) (b : ℤ) → 1 ≤ a → pos 0 ≤ℤ b → b ≤ℤ (pos a *ℤ b)
at_least_once zero b h low = absurd (omega arith)
at_least_once (suc a) b h low = omega (arith, ints, times-suc a b, times-le a (pos 0) b low)

-- at most a times what lies between -n and n, where a is at most m
pub times_within : (a m n : ℕ) (w : ℤ) → a ≤ m → neg_ℤ (pos n) ≤ℤ w → w ≤ℤ pos n → (neg_ℤ (pos (m * n)) ≤ℤ (pos a *ℤ w)) × ((pos a *ℤ w) ≤ℤ pos (m * n))
times_within a m n w h low high =
    let above : (pos a *ℤ w) ≤ℤ pos (a * n) = times-le a w (pos n) high in
    let least : pos a *ℤ neg_ℤ (pos n) ≡ neg_ℤ (pos (a * n)) = times-neg a (pos n) in
    let most : a * n ≤ m * n = mul-le-mul_right n h in
    (omega (arith, ints, times-le a (neg_ℤ (pos n)) w low, least, most), omega (arith, ints, above, most))

pub times-sum_to : (a : ℕ) (f : ℕ → ℕ) (n : ℕ) → a * sum_to f n ≡ sum_to (λ k. a * f k) n
times-sum_to a f zero = omega arith
times-sum_to a f (suc n) =
    let split : a * (sum_to f n + f n) ≡ a * sum_to f n + a * f n = grind arith in
    omega (arith, times-sum_to a f n, split)

pub times-int_sum_to : (a : ℕ) (f : ℕ → ℤ) (n : ℕ) → pos a *ℤ int_sum_to f n ≡ int_sum_to (λ k. pos a *ℤ f k) n
times-int_sum_to a f zero = omega (arith, ints)
times-int_sum_to a f (suc n) = omega (arith, ints, times-int_sum_to a f n, times-add a (int_sum_to f n) (f n))

-- a sum as a factor
pub sum_to-times : (f : ℕ → ℕ) (b : ℤ) (n : ℕ) → pos (sum_to f n) *ℤ b ≡ int_sum_to (λ k. pos (f k) *ℤ b) n
sum_to-times f b zero = omega (arith, ints)
sum_to-times f b (suc n) = omega (arith, ints, sum_to-times f b n, plus-times (sum_to f n) (f n) b)

-- a factor or a term that counts only where a test passes
pub cond-times : (t : Bool) (c : ℕ) (b : ℤ) → pos (cond t c 0) *ℤ b ≡ cond t (pos c *ℤ b) (pos 0)
cond-times true c b = refl
cond-times false c b = omega (arith, ints)

pub times-one_if : (t : Bool) (b : ℤ) → pos (cond t 1 0) *ℤ b ≡ cond t b (pos 0)
times-one_if true b = omega (arith, ints)
times-one_if false b = omega (arith, ints)

pub one_if-most : (t : Bool) → cond t 1 0 ≤ 1
one_if-most true = omega arith
one_if-most false = omega arith

pub times-cond : (t : Bool) (c : ℕ) (b : ℤ) → pos c *ℤ cond t b (pos 0) ≡ cond t (pos c *ℤ b) (pos 0)
times-cond true c b = refl
times-cond false c b = omega (arith, ints)

-- a test that does not depend on the place
pub int_sum_to-cond : (t : Bool) (f : ℕ → ℤ) (n : ℕ) → int_sum_to (λ i. cond t (f i) (pos 0)) n ≡ cond t (int_sum_to f n) (pos 0)
int_sum_to-cond true f n = refl
int_sum_to-cond false f n = int_sum_to-zero n

-- a natural sum as a whole one
pub int_sum_to-pos : (f : ℕ → ℕ) (n : ℕ) → int_sum_to (λ k. pos (f k)) n ≡ pos (sum_to f n)
int_sum_to-pos f zero = refl
int_sum_to-pos f (suc n) = omega (arith, ints, int_sum_to-pos f n)

-- one place more: the step of a loop

pub sum_to-more : (f : ℕ → ℕ) (n : ℕ) → sum_to f (n + 1) ≡ sum_to f n + f n
sum_to-more f n = rw add-one refl

pub int_sum_to-more : (f : ℕ → ℤ) (n : ℕ) → int_sum_to f (n + 1) ≡ int_sum_to f n +ℤ f n
int_sum_to-more f n = rw add-one refl

-- a running sum and the next term are the longer sum
pub sum_to-step : (f : ℕ → ℕ) (n s x : ℕ) → s ≡ sum_to f n → x ≡ f n → s + x ≡ sum_to f (n + 1)
sum_to-step f n s x so_far next = rw (so_far, next, sum_to-more f n) refl

-- a first part and the rest

pub sum_to-append : (f : ℕ → ℕ) (m n : ℕ) → sum_to f (m + n) ≡ sum_to f m + sum_to (λ k. f (m + k)) n
sum_to-append f m zero = grind arith
sum_to-append f m (suc n) =
    let step : sum_to f (m + suc n) ≡ sum_to f (m + n) + f (m + n) = ap (sum_to f) (let e : m + suc n ≡ suc (m + n) = omega arith in e) in
    omega (arith, step, sum_to-append f m n)

pub int_sum_to-append : (f : ℕ → ℤ) (m n : ℕ) → int_sum_to f (m + n) ≡ int_sum_to f m +ℤ int_sum_to (λ k. f (m + k)) n
int_sum_to-append f m zero = let e : m + 0 ≡ m = omega arith in rw e (omega (arith, ints))
int_sum_to-append f m (suc n) =
    let step : int_sum_to f (m + suc n) ≡ int_sum_to f (m + n) +ℤ f (m + n) = ap (int_sum_to f) (let e : m + suc n ≡ suc (m + n) = omega arith in e) in
    omega (arith, ints, step, int_sum_to-append f m n)

-- the even and the odd places

-- the term of one place among 1 to n

-- .. which stands past the sum
pub int_sum_to-at_none : (f : ℕ → ℤ) (u n : ℕ) → n < u → int_sum_to (λ i. cond (eqb u (i + 1)) (f (i + 1)) (pos 0)) n ≡ pos 0
int_sum_to-at_none f u zero h = refl
int_sum_to-at_none f u (suc n) h =
    let off : eqb u (n + 1) ≡ false = ne_eqb u (n + 1) (λ e. omega arith) in
    rw off (omega (arith, ints, int_sum_to-at_none f u n (omega arith)))

pub int_sum_to-at_one : (f : ℕ → ℤ) (u n : ℕ) → 1 ≤ u → u ≤ n → int_sum_to (λ i. cond (eqb u (i + 1)) (f (i + 1)) (pos 0)) n ≡ f u
int_sum_to-at_one f u zero low high = absurd (omega arith)
int_sum_to-at_one f u (suc n) low high =
    elim (cases_eq u (n + 1)) [
      | inl e ↦
          let front = int_sum_to-at_none f u n (omega arith) in
          let on : eqb u (n + 1) ≡ true = eq-eqb u (n + 1) e in
          let same : f (n + 1) ≡ f u = ap f (sym e) in
          rw on (omega (arith, ints, front, same))
      | inr d ↦
          let off : eqb u (n + 1) ≡ false = ne_eqb u (n + 1) d in
          rw off (omega (arith, ints, int_sum_to-at_one f u n low (omega arith)))
    ]

-- the same for natural terms

pub sum_to-at_none : (f : ℕ → ℕ) (u n : ℕ) → n < u → sum_to (λ i. cond (eqb u (i + 1)) (f (i + 1)) 0) n ≡ 0
sum_to-at_none f u zero h = refl
sum_to-at_none f u (suc n) h =
    let off : eqb u (n + 1) ≡ false = ne_eqb u (n + 1) (λ e. omega arith) in
    rw off (omega (arith, sum_to-at_none f u n (omega arith)))

pub sum_to-at_one : (f : ℕ → ℕ) (u n : ℕ) → 1 ≤ u → u ≤ n → sum_to (λ i. cond (eqb u (i + 1)) (f (i + 1)) 0) n ≡ f u
sum_to-at_one f u zero low high = absurd (omega arith)
sum_to-at_one f u (suc n) low high =
    elim (cases_eq u (n + 1)) [
      | inl e ↦
          let front = sum_to-at_none f u n (omega arith) in
          let on : eqb u (n + 1) ≡ true = eq-eqb u (n + 1) e in
          let same : f (n + 1) ≡ f u = ap f (sym e) in
          rw on (omega (arith, front, same))
      | inr d ↦
          let off : eqb u (n + 1) ≡ false = ne_eqb u (n + 1) d in
          rw off (omega (arith, sum_to-at_one f u n low (omega arith)))
    ]

-- terms of the same parity have sums of the same parity
pub sum_to-parity : (f g : ℕ → ℕ) (n : ℕ) → ((k : ℕ) → k < n → f k % 2 ≡ g k % 2) → sum_to f n % 2 ≡ sum_to g n % 2
sum_to-parity f g zero h = refl
sum_to-parity f g (suc n) h =
    let last : f n % 2 ≡ g n % 2 = h n (omega arith) in
    omega (arith, sum_to-parity f g n (λ k b. h k (omega arith)), last)

-- one term is at most a sum of natural ones
pub sum_to-has : (f : ℕ → ℕ) (n k : ℕ) → k < n → f k ≤ sum_to f n
sum_to-has f zero k b = absurd (omega arith)
sum_to-has f (suc n) k b =
    elim (cases_eq k n) [
      | inl e ↦ let same : f k ≡ f n = ap f e in omega arith
      | inr d ↦ let front = sum_to-has f n k (omega arith) in omega (arith, front)
    ]

-- terms of at most c make a sum of at most n times c
pub sum_to-most : (f : ℕ → ℕ) (c n : ℕ) → ((k : ℕ) → k < n → f k ≤ c) → sum_to f n ≤ n * c
sum_to-most f c zero h = omega arith
sum_to-most f c (suc n) h =
    let last : f n ≤ c = h n (omega arith) in
    let more : suc n * c ≡ n * c + c = omega arith in
    omega (arith, sum_to-most f c n (λ k b. h k (omega arith)), last, more)

-- terms between -c and c make a sum between -n c and n c
pub int_sum_to-within : (f : ℕ → ℤ) (c n : ℕ) → ((k : ℕ) → k < n → (neg_ℤ (pos c) ≤ℤ f k) × (f k ≤ℤ pos c)) → (neg_ℤ (pos (n * c)) ≤ℤ int_sum_to f n) × (int_sum_to f n ≤ℤ pos (n * c))
int_sum_to-within f c zero h = (omega (arith, ints), omega (arith, ints))
int_sum_to-within f c (suc n) h =
    let front = int_sum_to-within f c n (λ k b. h k (omega arith)) in
    let last : (neg_ℤ (pos c) ≤ℤ f n) × (f n ≤ℤ pos c) = h n (omega arith) in
    let more : suc n * c ≡ n * c + c = omega arith in
    (omega (arith, ints, front.0, last.0, more), omega (arith, ints, front.1, last.1, more))

-- more terms
pub sum_to-longer : (f : ℕ → ℕ) (m n : ℕ) → m ≤ n → sum_to f m ≤ sum_to f n
sum_to-longer f m n h =
    let more : n ≡ m + (n - m) = omega arith in
    omega (arith, ap (sum_to f) more, sum_to-append f m (n - m))

-- terms two by two
pub sum_to-pairs : (f : ℕ → ℕ) (m : ℕ) → sum_to f (2 * m) ≡ sum_to (λ i. f (2 * i) + f (2 * i + 1)) m
sum_to-pairs f zero = refl
sum_to-pairs f (suc m) =
    let step : sum_to f (2 * suc m) ≡ sum_to f (2 * m) + f (2 * m) + f (suc (2 * m)) = ap (sum_to f) (let e : 2 * suc m ≡ suc (suc (2 * m)) = omega arith in e) in
    let next : f (suc (2 * m)) ≡ f (2 * m + 1) = ap f (omega arith) in
    omega (arith, step, next, sum_to-pairs f m)
