-- Units of an edge: each takes the next copy of one end and the next copy of the other, of a loop the next two copies of its end.
use Rattle.graph_theory.proofs.Common.{◌≡◌, ℕ, ◌+◌, ◌*◌, ◌-◌, ◌<◌, ◌≤◌, cond, eqb, ltb, refl, ap, sym, ◌∙◌, inl, inr, arith, cases_eq, cases_lt, eq-eqb}
use Rattle.graph_theory.proofs.Common.{ne_eqb, lt-ltb, le-ltb, nat_tests, sum_to, sum_to-same, sum_to-swap, sum_to-add, sum_to-zero, sum_to-pairs, sum_to-none, sum_to-ones, sum_to-blocks}
use Rattle.graph_theory.proofs.Common.{sum_to-cond, sum_to-hit, sum_to-hit_from, sum_to-miss, test-small, cond_off}
use Rattle.gadget_base.proofs.Degrees.{among, at_place}

-- how many of x units from copy s on take copy a
abbrev pub taken : ℕ → ℕ → ℕ → ℕ
taken s x a = sum_to (λ y. cond (eqb (s + y) a) 1 0) x

-- how many of x units from copies s and t on take copies a and j
abbrev pub units : ℕ → ℕ → ℕ → ℕ → ℕ → ℕ
units s t x a j = sum_to (λ y. cond (eqb (s + y) a) (cond (eqb (t + y) j) 1 0) 0) x

-- units that follow one another take each copy below their number once, and none of the others
pub taken-all : (x : ℕ → ℕ) (n c : ℕ) → sum_to (λ i. taken (sum_to x i) (x i) c) n ≡ cond (ltb c (sum_to x n)) 1 0
taken-all x n c =
    sym (sum_to-blocks x (λ k. cond (eqb k c) 1 0) n)
    ∙ elim (cases_lt c (sum_to x n)) [
      | inl inside ↦ rw (lt-ltb c (sum_to x n) inside) (sum_to-hit (λ _. 1) c (sum_to x n) inside)
      | inr past ↦ rw (le-ltb c (sum_to x n) past) (sum_to-miss (λ _. 1) c (sum_to x n) past)
    ]

pub taken-each : (x : ℕ → ℕ) (n c : ℕ) → c < sum_to x n → sum_to (λ i. taken (sum_to x i) (x i) c) n ≡ 1
taken-each x n c h = taken-all x n c ∙ rw (lt-ltb c (sum_to x n) h) refl

-- .. so no copy twice
pub taken-small : (x : ℕ → ℕ) (n c : ℕ) → sum_to (λ i. taken (sum_to x i) (x i) c) n ≤ 1
taken-small x n c = omega (arith, taken-all x n c, test-small (ltb c (sum_to x n)))

-- all copies together are taken as often as there are units
pub taken-total : (s x m : ℕ) → s + x ≤ m → sum_to (taken s x) m ≡ x
taken-total s x m h = sum_to-swap _ m x ∙ sum_to-ones _ x (λ y l. sum_to-hit_from (λ _. 1) (s + y) m (omega arith))

pub units-row : (s t x n a : ℕ) → t + x ≤ n → sum_to (units s t x a) n ≡ taken s x a
units-row s t x n a h =
    sum_to-swap _ n x
    ∙ sum_to-same _ _ x (λ y l. sum_to-cond (eqb (s + y) a) _ n ∙ ap (λ z. cond (eqb (s + y) a) z 0) (sum_to-hit_from (λ _. 1) (t + y) n (omega arith)))

pub units-column : (s t x m j : ℕ) → s + x ≤ m → sum_to (λ a. units s t x a j) m ≡ taken t x j
units-column s t x m j h = sum_to-swap _ m x ∙ sum_to-same _ _ x (λ y l. sum_to-hit_from (λ _. cond (eqb (t + y) j) 1 0) (s + y) m (omega arith))

-- all pairs of copies together are taken as often as there are units
pub units-total : (s t x m n : ℕ) → s + x ≤ m → t + x ≤ n → sum_to (λ a. sum_to (units s t x a) n) m ≡ x
units-total s t x m n h h' = sum_to-same _ (taken s x) m (λ a _. units-row s t x n a h') ∙ taken-total s x m h

-- how many of x units of a loop, which from copy s on take two copies each, take copies a and j
abbrev pub neighbours : ℕ → ℕ → ℕ → ℕ → ℕ
neighbours s x a j = sum_to (λ y. cond (eqb (s + 2 * y) a) (cond (eqb (s + (2 * y + 1)) j) 1 0) 0) x

-- how many of the units take the copy as their first, and as their second
abbrev first_taken : ℕ → ℕ → ℕ → ℕ
first_taken s x c = sum_to (λ y. cond (eqb (s + 2 * y) c) 1 0) x

abbrev second_taken : ℕ → ℕ → ℕ → ℕ
second_taken s x c = sum_to (λ y. cond (eqb (s + (2 * y + 1)) c) 1 0) x

neighbours-before : (s x c : ℕ) → sum_to (λ a. neighbours s x a c) c ≡ second_taken s x c
neighbours-before s x c =
    sum_to-swap _ c x
    ∙ sum_to-same _ _ x
    (λ y _. elim (cases_eq (s + (2 * y + 1)) c) [
      | inl e ↦ rw (eq-eqb _ _ e) (sum_to-hit_from (λ _. 1) (s + 2 * y) c (omega arith))
      | inr d ↦ rw (ne_eqb _ _ d) (sum_to-none _ c (λ a _. cond_off (eqb (s + 2 * y) a)))
    ])

next_test : (s y c d : ℕ) → s + 2 * y ≡ c → eqb (s + (2 * y + 1)) (c + d + 1) ≡ eqb d 0
next_test s y c d e = grind (arith, nat_tests)

neighbours-after : (s x n c : ℕ) → s + 2 * x ≤ n → sum_to (λ d. neighbours s x c (c + d + 1)) (n - 1 - c) ≡ first_taken s x c
neighbours-after s x n c h =
    sum_to-swap _ (n - 1 - c) x
    ∙ sum_to-same _ _ x
    (λ y l. elim (cases_eq (s + 2 * y) c) [
      | inl e ↦ rw (eq-eqb _ _ e)
          (sum_to-same _ (λ d. cond (eqb d 0) 1 0) (n - 1 - c) (λ d _. rw (next_test s y c d e) refl) ∙ sum_to-hit (λ _. 1) 0 (n - 1 - c) (omega arith))
      | inr d ↦ rw (ne_eqb _ _ d) (sum_to-zero (n - 1 - c))
    ])

-- each unit takes two copies, side by side
pub neighbours-at : (s x n c : ℕ) → s + 2 * x ≤ n → at_place (neighbours s x) n c ≡ taken s (2 * x) c
neighbours-at s x n c h =
    let both = sum_to-pairs (λ y. cond (eqb (s + y) c) 1 0) x ∙ sum_to-add (λ y. cond (eqb (s + 2 * y) c) 1 0) (λ y. cond (eqb (s + (2 * y + 1)) c) 1 0) x in
    omega (arith, neighbours-before s x c, neighbours-after s x n c h, both)

-- all pairs of copies together are taken as often as there are units
pub neighbours-total : (s x n : ℕ) → s + 2 * x ≤ n → among (neighbours s x) n ≡ x
neighbours-total s x n h =
    sum_to-same _ (first_taken s x) n (λ a _. neighbours-after s x n a h)
    ∙ sum_to-swap _ n x
    ∙ sum_to-ones _ x (λ y l. sum_to-hit_from (λ _. 1) (s + 2 * y) n (omega arith))
