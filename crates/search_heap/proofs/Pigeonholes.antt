-- Numbers below n that are told apart: there are at most n of them.
use Rattle.std.proofs.lemmas.Bool.Decides.{nat_tests}
use Rattle.std.proofs.Common.{◌≡◌, ℕ, zero, suc, ◌+◌, ◌-◌, ◌<◌, ◌≤◌, ◌≢◌, eqb, cond, sym, ap, ◌∙◌, ⊎_elim, arith}
use Rattle.std.proofs.lemmas.Bool.{cases_eq, cases_lt}

-- the values of f below m are below n, and g finds where each comes from
pub record IsUndone (f g : ℕ → ℕ) (m n : ℕ) : Type 0 where
  pub within : (i : ℕ) → i < m → f i < n
  pub undone : (i : ℕ) → i < m → g (f i) ≡ i

-- a function with another value at k
abbrev changed : (ℕ → ℕ) → ℕ → ℕ → ℕ → ℕ
changed f k y i = cond (eqb i k) y (f i)

-- where a value comes from
came_from : (f g : ℕ → ℕ) (m n i y : ℕ) → IsUndone f g m n → i < m → f i ≡ y → g y ≡ i
came_from f g m n i y h p q = sym (ap g q) ∙ h.undone i p

-- no value is the greatest number
all_less : (f g : ℕ → ℕ) (m n : ℕ) → IsUndone f g m (suc n) → ((i : ℕ) → i < m → f i ≢ n) → IsUndone f g m n
all_less f g m n h ne = record {
  within = λ i p. let apart : f i ≢ n = ne i p in omega (arith, h.within i p, apart);
  undone = h.undone;
}

-- the place whose value is the greatest number takes the value of the last one
all_but_one : (f g : ℕ → ℕ) (m n : ℕ) → IsUndone f g m (suc n) → g n < m → f (g n) ≡ n → IsUndone (changed f (g n) (f (m - 1))) (changed g (f (m - 1)) (g n)) (m - 1) n
all_but_one f g m n h low hit =
    let last : m - 1 < m = omega arith in
    record {
      within = λ i p. grind (arith, nat_tests, h.within i, h.within (m - 1) last, h.undone i, h.undone (m - 1) last);
      undone = λ i p. grind (arith, nat_tests, h.undone i, h.undone (m - 1) last);
    }

at_most : (n m : ℕ) (f g : ℕ → ℕ) → IsUndone f g m n → m ≤ n
at_most zero m f g h = grind (arith, h.within 0)
at_most (suc n) m f g h =
    ⊎_elim
    (λ (low : g n < m). ⊎_elim
    (λ (hit : f (g n) ≡ n).
    let fewer : m - 1 ≤ n = at_most n (m - 1) (changed f (g n) (f (m - 1))) (changed g (f (m - 1)) (g n)) (all_but_one f g m n h low hit) in
    omega (arith, fewer))
    (λ (miss : f (g n) ≢ n).
    let fewer : m ≤ n = at_most n m f g (all_less f g m n h (λ i p q. miss (ap f (came_from f g m (suc n) i n h p q) ∙ q))) in
    omega (arith, fewer))
    (cases_eq (f (g n)) n))
    (λ (high : m ≤ g n).
    let fewer : m ≤ n = at_most n m f g (all_less f g m n h (λ i p q. absurd (omega (arith, p, high, came_from f g m (suc n) i n h p q)))) in
    omega (arith, fewer))
    (cases_lt (g n) m)

-- where one number below n is none of the values
pub less_by_one : (f g : ℕ → ℕ) (m n z : ℕ) → IsUndone f g m n → z < n → ((i : ℕ) → i < m → f i ≢ z) → m < n
less_by_one f g m n z h low ne =
    let more : IsUndone (changed f m z) (changed g z m) (m + 1) n = record {
      within = λ i p. grind (arith, nat_tests, h.within i);
      undone = λ i p. grind (arith, nat_tests, h.undone i, ne i);
    } in
    let fewer : m + 1 ≤ n = at_most n (m + 1) (changed f m z) (changed g z m) more in
    omega (arith, fewer)
