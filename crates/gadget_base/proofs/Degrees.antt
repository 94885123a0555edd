-- The degree at a vertex of counts on a rectangle or a clique, by what stands at its place; and what they weigh.
use Rattle.graph_theory.proofs.Common.{◌≡◌, ◌≢◌, ℕ, zero, suc, ◌+◌, ◌-◌, ◌*◌, ◌<◌, ◌≤◌, ℤ, pos, ◌*ℤ◌, Bool, true, false, cond, eqb, ltb, refl, ap}
use Rattle.graph_theory.proofs.Common.{sym, ◌∙◌, subst, inl, inr, arith, cases_eq, cases_lt, eq-eqb, ne_eqb, lt-ltb, le-ltb, nat_tests, sum_to, int_sum_to, sum_to-same, sum_to-swap}
use Rattle.graph_theory.proofs.Common.{int_sum_to-same, sum_to-times, sum_to-none, sum_to-cond, sum_to-hit, sum_to-both, block-once}
use Rattle.gadget_base.specs.Blocks.{rectangle, clique}
use Rattle.gadget_base.proofs.Over.{at_vertex, weighing, table, clique_table, nat-sum, int-sum, Sums, sums-same, sums-rectangle, sums-clique}

-- what f counts at place q where it stands at the m places from `first` on
abbrev pub pick : ℕ → ℕ → (ℕ → ℕ) → ℕ → ℕ
pick first m f q = sum_to (λ a. cond (eqb (first + a) q) (f a) 0) m

pub pick-none : (first m : ℕ) (f : ℕ → ℕ) (q : ℕ) → ((a : ℕ) → a < m → first + a ≢ q) → pick first m f q ≡ 0
pick-none first m f q apart = sum_to-none _ m (λ a b. rw (ne_eqb (first + a) q (apart a b)) refl)

test_from : (s a c : ℕ) → eqb (s + a) (s + c) ≡ eqb a c
test_from s a c = grind (arith, nat_tests)

pub pick-here : (first m : ℕ) (f : ℕ → ℕ) (c : ℕ) → c < m → pick first m f (first + c) ≡ f c
pick-here first m f c b = sum_to-same _ (λ a. cond (eqb a c) (f a) 0) m (λ a _. rw (test_from first a c) refl) ∙ sum_to-hit f c m b

-- where the places of p come after those of all before it
pub pick-block : (size : ℕ → ℕ) (f : ℕ → ℕ) (p t c : ℕ) → c < size t → pick (sum_to size p) (size p) f (sum_to size t + c) ≡ cond (eqb p t) (f c) 0
pick-block size f p t c b =
    elim (cases_eq p t) [
      | inl e ↦
          let P : ℕ → Type 0 = λ s. pick (sum_to size s) (size s) f (sum_to size t + c) ≡ f c in
          rw (eq-eqb p t e) (subst P (sym e) (pick-here (sum_to size t) (size t) f c b))
      | inr d ↦ rw (ne_eqb p t d) (pick-none _ (size p) f _ (λ a l e. d (block-once size p t a c l b e)))
    ]

-- an edge between two places counts at both

at-both : (p r q c : ℕ) → c * (cond (eqb (p + 1) (q + 1)) 1 0 + cond (eqb (r + 1) (q + 1)) 1 0) ≡ cond (eqb p q) c 0 + cond (eqb r q) c 0
at-both p r q c = grind (arith, nat_tests)

at-pair : (b a d q c : ℕ) → c * (cond (eqb (b + a + 1) (q + 1)) 1 0 + cond (eqb (b + a + 1 + d + 1) (q + 1)) 1 0) ≡ cond (eqb (b + a) q) c 0 + cond (eqb (b + (a + d + 1)) q) c 0
at-pair b a d q c = grind (arith, nat_tests)

cond-plus : (t : Bool) (a b : ℕ) → cond t (a + b) 0 ≡ cond t a 0 + cond t b 0
cond-plus true a b = refl
cond-plus false a b = refl

pub pick-plus : (first m : ℕ) (f g : ℕ → ℕ) (q : ℕ) → pick first m (λ a. f a + g a) q ≡ pick first m f q + pick first m g q
pick-plus first m f g q = sum_to-both _ _ _ m (λ a _. cond-plus (eqb (first + a) q) (f a) (g a))

-- in a rectangle: the sum of row a at the place `first + a`, and that of column j at the place `second + j`
pub rectangle-picks : (first m second n : ℕ) (w : ℤ) (f : ℕ → ℕ → ℕ) (q : ℕ) → Sums sum_to (at_vertex (q + 1)) (rectangle first m second n w) (table f m n)
    (pick first m (λ a. sum_to (f a) n) q + pick second n (λ j. sum_to (λ a. f a j) m) q)
rectangle-picks first m second n w f q =
    let at_u : ℕ → ℕ → ℕ = λ a j. cond (eqb (first + a) q) (f a j) 0 in
    let at_v : ℕ → ℕ → ℕ = λ a j. cond (eqb (second + j) q) (f a j) 0 in
    let parts = sum_to-both _ (λ a. sum_to (at_u a) n) (λ a. sum_to (at_v a) n) m (λ a _. sum_to-both _ (at_u a) (at_v a) n (λ j _. at-both (first + a) (second + j) q (f a j))) in
    let rows = sum_to-same _ _ m (λ a _. sum_to-cond (eqb (first + a) q) (f a) n) in
    let columns = sum_to-swap at_v m n ∙ sum_to-same _ _ n (λ j _. sum_to-cond (eqb (second + j) q) (λ a. f a j) m) in
    sums-same (sums-rectangle nat-sum (at_vertex (q + 1)) f first m second n w) (omega (arith, parts, rows, columns))

-- all pairs of n places, and those of one of them
abbrev pub among : (ℕ → ℕ → ℕ) → ℕ → ℕ
among M n = sum_to (λ a. sum_to (λ d. M a (a + d + 1)) (n - 1 - a)) n

abbrev pub at_place : (ℕ → ℕ → ℕ) → ℕ → ℕ → ℕ
at_place M n c = sum_to (λ a. M a c) c + sum_to (λ d. M c (c + d + 1)) (n - 1 - c)

-- each pair by its second place
pub among-below : (M : ℕ → ℕ → ℕ) (n : ℕ) → sum_to (λ c. sum_to (λ a. M a c) c) n ≡ among M n
among-below M zero = refl
among-below M (suc n) =
    let each = sum_to-both (λ a. sum_to (λ d. M a (a + d + 1)) (suc n - 1 - a)) (λ a. sum_to (λ d. M a (a + d + 1)) (n - 1 - a)) (λ a. M a n) n
    (λ a b.
    let more : suc n - 1 - a ≡ suc (n - 1 - a) = omega arith in
    let last : a + (n - 1 - a) + 1 ≡ n = omega arith in
    rw (more, last) refl) in
    let none : suc n - 1 - n ≡ 0 = omega arith in
    let empty : sum_to (λ d. M n (n + d + 1)) (suc n - 1 - n) ≡ 0 = rw none refl in
    omega (arith, among-below M n, each, empty)

-- in a clique: the pairs of a place
pub clique-picks : (M : ℕ → ℕ → ℕ) (before n : ℕ) (w : ℤ) (q : ℕ) → Sums sum_to (at_vertex (q + 1)) (clique before n w) (clique_table M n) (pick before n (at_place M n) q)
clique-picks M before n w q =
    let t : ℕ → Bool = λ a. eqb (before + a) q in
    let low : ℕ → ℕ → ℕ = λ a c. cond (t a) (M a c) 0 in
    let high : ℕ → ℕ → ℕ = λ a c. cond (t c) (M a c) 0 in
    let rest : (ℕ → ℕ → ℕ) → ℕ → ℕ = λ N a. sum_to (λ d. N a (a + d + 1)) (n - 1 - a) in
    let firsts = sum_to-same (rest low) (λ c. cond (t c) (rest M c) 0) n (λ c _. sum_to-cond (t c) (λ d. M c (c + d + 1)) (n - 1 - c)) in
    let seconds = sum_to-same (λ c. sum_to (λ a. high a c) c) (λ c. cond (t c) (sum_to (λ a. M a c) c) 0) n (λ c _. sum_to-cond (t c) (λ a. M a c) c) in
    let both = sum_to-both (λ c. cond (t c) (at_place M n c) 0) (λ c. cond (t c) (sum_to (λ a. M a c) c) 0) (λ c. cond (t c) (rest M c) 0) n
    (λ c _. cond-plus (t c) (sum_to (λ a. M a c) c) (rest M c)) in
    sums-same (sums-clique nat-sum (at_vertex (q + 1)) M before n w)
    (sum_to-both _ (rest low) (rest high) n
    (λ a _. sum_to-both _ (λ d. low a (a + d + 1)) (λ d. high a (a + d + 1)) (n - 1 - a)
    (λ d _. at-pair before a d q (M a (a + d + 1))))
    ∙ omega (arith, firsts, seconds, among-below high n, both))

-- what they weigh

sums-times : (f : ℕ → ℕ → ℕ) (n : ℕ → ℕ) (w : ℤ) (m : ℕ)
    → int_sum_to (λ a. int_sum_to (λ j. pos (f a j) *ℤ w) (n a)) m ≡ pos (sum_to (λ a. sum_to (f a) (n a)) m) *ℤ w
sums-times f n w m = int_sum_to-same _ _ m (λ a _. sym (sum_to-times (f a) w (n a))) ∙ sym (sum_to-times (λ a. sum_to (f a) (n a)) w m)

pub rectangle-weight : (N : ℕ → ℕ → ℕ) (first m second n : ℕ) (w : ℤ)
    → Sums int_sum_to weighing (rectangle first m second n w) (table N m n) (pos (sum_to (λ a. sum_to (N a) n) m) *ℤ w)
rectangle-weight N first m second n w = sums-same (sums-rectangle int-sum weighing N first m second n w) (sums-times N (λ _. n) w m)

pub clique-weight : (M : ℕ → ℕ → ℕ) (before n : ℕ) (w : ℤ) → Sums int_sum_to weighing (clique before n w) (clique_table M n) (pos (among M n) *ℤ w)
clique-weight M before n w = sums-same (sums-clique int-sum weighing M before n w) (sums-times (λ a d. M a (a + d + 1)) (λ a. n - 1 - a) w n)

-- the terms of the places below c
pub sum_to-below : (f : ℕ → ℕ) (c n : ℕ) → c ≤ n → sum_to (λ a. cond (ltb a c) (f a) 0) n ≡ sum_to f c
sum_to-below f c zero h = let none : c ≡ 0 = omega arith in rw none refl
sum_to-below f c (suc n) h =
    elim (cases_lt n c) [
      | inl below ↦
          let whole : c ≡ suc n = omega arith in
          sum_to-same (λ a. cond (ltb a c) (f a) 0) f (suc n) (λ a b. rw (lt-ltb a c (omega arith)) refl) ∙ ap (sum_to f) (sym whole)
      | inr past ↦ rw (le-ltb n c past) (omega (arith, sum_to-below f c n past))
    ]
