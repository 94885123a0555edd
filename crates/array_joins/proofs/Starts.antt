-- Starts without a fault never fall, and the last is the number of terminals.
use Rattle.mb_problem.proofs.Common.{◌≡◌, ℕ, zero, suc, ◌+◌, ◌-◌, ◌<◌, ◌≤◌, Bool, true, false, cond, not, eqb, ltb, ◌&&◌, ◌||◌, List, length, slice_index, Option, None, Some}
use Rattle.mb_problem.proofs.Common.{refl, ap, sym, ◌∙◌, subst, arith, eqb-true, eq-eqb, ne_eqb, cond-false, ltb-false, not-false}
use Rattle.std.proofs.lemmas.Bool.{or_parts}
use Rattle.array_joins.specs.First.{first_of}
use Rattle.array_joins.specs.Sets.{set_count, falls_at, ends_wrong_at, wrong_start, starts_fault}
use Rattle.array_joins.proofs.Firsts.{none-below}

unstopped : (b : Bool) (k : ℕ) → cond b (Some k) None ≡ None → b ≡ false
unstopped true k e = absurd cc
unstopped false k e = refl

started : (b : Bool) (o : Option ℕ) → cond b (Some 0) o ≡ None → o ≡ None
started true o e = absurd cc
started false o e = e

pub none-wrong : (starts : List ℕ) (count k : ℕ) → starts_fault starts count ≡ None → k < length starts → wrong_start starts count k ≡ None
none-wrong starts count k e h =
    none-below (wrong_start starts count) (length starts) k (started (eqb (length starts) 0) (first_of (wrong_start starts count) (length starts)) e) h

sound : (starts : List ℕ) (count k : ℕ) → starts_fault starts count ≡ None → k < length starts → (falls_at starts k ≡ false) × (ends_wrong_at starts count k ≡ false)
sound starts count k e h =
    or_parts (falls_at starts k) (ends_wrong_at starts count k) (unstopped (falls_at starts k || ends_wrong_at starts count k) k (none-wrong starts count k e h))

-- none is less than the one before it
step : (starts : List ℕ) (count j : ℕ) → starts_fault starts count ≡ None → suc j < length starts → slice_index starts j ≤ slice_index starts (suc j)
step starts count j e h =
    let kept : falls_at starts (suc j) ≡ ltb (slice_index starts (suc j)) (slice_index starts j) =
    cond-false _ _ _ (ne_eqb (suc j) 0 (λ z. omega (arith, z))) ∙ ap (λ (n : ℕ). ltb (slice_index starts (suc j)) (slice_index starts n)) (let back : suc j - 1 ≡ j = omega arith in back) in
    ltb-false (slice_index starts (suc j)) (slice_index starts j) (sym kept ∙ (sound starts count (suc j) e h).0)

matched : (a b : Bool) → a ≡ true → (a && not b) ≡ false → b ≡ true
matched true b on e = not-false b e
matched false b on e = absurd cc

last : (starts : List ℕ) (count j : ℕ) → starts_fault starts count ≡ None → suc j ≡ length starts → slice_index starts j ≡ count
last starts count j e h =
    eqb-true (slice_index starts j) count
    (matched (eqb (j + 1) (length starts)) (eqb (slice_index starts j) count) (eq-eqb (j + 1) (length starts) (omega (arith, h))) (sound starts count j e (omega (arith, h))).1)

-- none is greater than the last
below : (starts : List ℕ) (count d j : ℕ) → starts_fault starts count ≡ None → j + suc d ≡ length starts → slice_index starts j ≤ count
below starts count zero j e h = omega (arith, last starts count j e (omega (arith, h)))
below starts count (suc d) j e h = omega (arith, step starts count j e (omega (arith, h)), below starts count d (suc j) e (omega (arith, h)))

-- the set at an index lies among the terminals
pub bounds : (starts : List ℕ) (count k : ℕ) → starts_fault starts count ≡ None → k < set_count starts
    → (slice_index starts k ≤ slice_index starts (k + 1)) × (slice_index starts (k + 1) ≤ count)
bounds starts count k e h =
    let next : suc k ≡ k + 1 = omega arith in
    subst (λ (n : ℕ). (slice_index starts k ≤ slice_index starts n) × (slice_index starts n ≤ count)) next
    (step starts count k e (omega (arith, h)), below starts count (length starts - 1 - suc k) (suc k) e (omega (arith, h)))
