-- The duals of the first nodes of a list, added up one by one.
use Rattle.graph_theory.proofs.Common.{◌≡◌, ℕ, suc, ◌+◌, ◌-◌, ◌<◌, ℤ, pos, ◌+ℤ◌, List, [], ◌∷◌, length, take, Option, Some, None, sym, ap, ◌∙◌, subst}
use Rattle.graph_theory.proofs.Common.{arith, MatchOption, All, neg_ℤ, ◌*ℤ◌, ◌≤ℤ◌, AllByRecursion, ints, IsNumber, take_all}
use Rattle.graph_theory.specs.declared.limits.TheConstants.{NUMBER_LIMIT}
use Rattle.blossom_arena.specs.Family.{dual_at}
use Rattle.blossom_arena.proofs.Held.{dual_number}
use Rattle.alt_forest.specs.Chains.{total_of, dual_of}

total_first : (y : ℕ → ℤ) (o : Option ℕ) (xs ys : List ℕ) (k : ℕ) → MatchOption o ((xs ≡ []) × (ys ≡ [])) (λ x. xs ≡ x ∷ ys)
    → dual_of y o +ℤ total_of y (take k ys) ≡ total_of y (take (suc k) xs)
total_first y None xs ys k e =
    let left : total_of y (take k ys) ≡ pos 0 = ap (λ zs. total_of y (take k zs)) e.1 ∙ ap (total_of y) (take_all k [] (omega arith)) in
    let right : total_of y (take (suc k) xs) ≡ pos 0 = ap (λ zs. total_of y (take (suc k) zs)) e.0 in
    omega (arith, ints)
total_first y (Some x) xs ys k e = sym (ap (λ zs. total_of y (take (suc k) zs)) e)

-- one step: what is added is no longer to come
pub total_step : (y : ℕ → ℤ) (o : Option ℕ) (xs ys : List ℕ) (n k : ℕ) (sum next dual whole : ℤ) → MatchOption o ((xs ≡ []) × (ys ≡ [])) (λ x. xs ≡ x ∷ ys)
    → k < n → dual ≡ dual_of y o
    → next ≡ sum +ℤ dual
    → sum +ℤ total_of y (take (n - k) xs) ≡ whole → next +ℤ total_of y (take (n - (k + 1)) ys) ≡ whole
total_step y o xs ys n k sum next dual whole e low d s so =
    let one : suc (n - (k + 1)) ≡ n - k = omega (arith, low) in
    let first : dual_of y o +ℤ total_of y (take (n - (k + 1)) ys) ≡ total_of y (take (n - k) xs) = total_first y o xs ys (n - (k + 1)) e ∙ ap (λ j. total_of y (take j xs)) one in
    omega (arith, ints, first, d, s, so)

pub each_left : (P : ℕ → Type 0) (o : Option ℕ) (xs ys : List ℕ) → MatchOption o ((xs ≡ []) × (ys ≡ [])) (λ x. xs ≡ x ∷ ys)
    → AllByRecursion P xs → AllByRecursion P ys
each_left P None xs ys e each = subst (AllByRecursion P) (sym e.1) tt
each_left P (Some x) xs ys e each = (subst (AllByRecursion P) e each).1

-- so many duals add up to no more than so many times the greatest
pub total_within : (ys : List ℤ) (xs : List ℕ) → All IsNumber ys
    → (neg_ℤ (NUMBER_LIMIT *ℤ pos (length xs)) ≤ℤ total_of (dual_at ys) xs) × (total_of (dual_at ys) xs ≤ℤ (NUMBER_LIMIT *ℤ pos (length xs)))
total_within ys [] all = (omega (arith, ints), omega (arith, ints))
total_within ys (x ∷ xs) all =
    let rest = total_within ys xs all in let own = dual_number ys x all in
    (omega (arith, ints, rest.0, rest.1, own.0, own.1), omega (arith, ints, rest.0, rest.1, own.0, own.1))
