-- How often a number is listed, and whether it is.
use Rattle.graph_theory.proofs.Common.{nat_tests, ◌≡◌, ℕ, zero, suc, ◌+◌, ◌<◌, ◌≤◌, Bool, true, false, cond, eqb, refl, ap, sym, ◌∙◌, arith, List, [], ◌∷◌}
use Rattle.graph_theory.proofs.Common.{◌++◌, length, take, get_or, slice_index, count_by, IsStrictlyIncreasing, eq-eqb, true≢false, take_more, sum_by-cons, sum_by-append, holds}
use Rattle.graph_theory.proofs.Common.{AllDiffer, differ-tail, differ-head, ascending-differ}
use Rattle.gadget_base.specs.Listed.{times}

-- one number more, and one list after another

pub times-cons : (e : ℕ) (es : List ℕ) (k : ℕ) → times (e ∷ es) k ≡ cond (eqb e k) 1 0 + times es k
times-cons e es k = sum_by-cons (λ x. cond (eqb x k) 1 0) e es

pub times-one : (x e : ℕ) → times (x ∷ []) e ≡ cond (eqb x e) 1 0
times-one x e =
    let none : times [] e ≡ 0 = refl in
    omega (arith, none, times-cons x [] e)

pub times-append : (es fs : List ℕ) (e : ℕ) → times (es ++ fs) e ≡ times es e + times fs e
times-append es fs e = sum_by-append (λ x. cond (eqb x e) 1 0) es fs

pub times-push : (es : List ℕ) (x e : ℕ) → times (es ++ x ∷ []) e ≡ times es e + cond (eqb x e) 1 0
times-push es x e = omega (arith, times-append es (x ∷ []) e, times-one x e)

pub times-more : (es : List ℕ) (i e : ℕ) → i < length es → times (take (i + 1) es) e ≡ times (take i es) e + cond (eqb (slice_index es i) e) 1 0
times-more es i e b = ap (λ (xs : List ℕ). times xs e) (take_more es i 0 b) ∙ times-push (take i es) (slice_index es i) e

-- all of them
pub count_all : (es : List ℕ) → count_by (λ _. true) es ≡ length es
count_all [] = refl
count_all (e ∷ es) = sum_by-cons (λ _. 1) e es ∙ (let rest = count_all es in omega (arith, rest))

-- a number is listed at least once exactly where it is a member

test_on : (x e : ℕ) → x ≡ e → cond {A = ℕ} (eqb x e) 1 0 ≡ 1
test_on x e h = ap (λ (t : Bool). cond {A = ℕ} t 1 0) (eq-eqb x e h)

pub times-at : (es : List ℕ) (i : ℕ) → i < length es → 1 ≤ times es (get_or es i 0)
times-at [] i b = absurd (omega arith)
times-at (x ∷ es) zero b = omega (arith, times-cons x es x, test_on x x refl)
times-at (x ∷ es) (suc i) b = omega (arith, times-cons x es (get_or es i 0), times-at es i (omega arith))

pub held-times : (es : List ℕ) (e : ℕ) → holds es e ≡ true → 1 ≤ times es e
held-times [] e h = absurd (true≢false (sym h))
held-times (x ∷ es) e h = grind (arith, nat_tests, times-cons x es e, held-times es e)

pub times-held : (es : List ℕ) (e : ℕ) → 1 ≤ times es e → holds es e ≡ true
times-held [] e some = let none : times [] e ≡ 0 = refl in absurd (omega (arith, none, some))
times-held (x ∷ es) e some = grind (arith, nat_tests, times-cons x es e, times-held es e)

pub not_held-times : (es : List ℕ) (e : ℕ) → holds es e ≡ false → times es e ≡ 0
not_held-times [] e h = refl
not_held-times (x ∷ es) e h = grind (arith, nat_tests, times-cons x es e, not_held-times es e)

-- a number that is listed at most once
pub times-holds : (es : List ℕ) (e : ℕ) → times es e ≤ 1 → times es e ≡ cond (holds es e) 1 0
times-holds es e few = grind (arith, nat_tests, held-times es e, not_held-times es e)

-- numbers differ where none is listed twice, and the other way round

-- a number that stands at two places is listed twice
listed-twice : (es : List ℕ) (i j : ℕ) → i < j → j < length es → get_or es i 0 ≡ get_or es j 0 → 2 ≤ times es (get_or es j 0)
listed-twice [] i j a b same = absurd (omega arith)
listed-twice (x ∷ es) i zero a b same = absurd (omega arith)
listed-twice (x ∷ es) zero (suc j) a b same = omega (arith, times-cons x es (get_or es j 0), test_on x (get_or es j 0) same, times-at es j (omega arith))
listed-twice (x ∷ es) (suc i) (suc j) a b same = omega (arith, times-cons x es (get_or es j 0), listed-twice es i j (omega arith) (omega arith) same)

pub once-differ : (es : List ℕ) → ((i : ℕ) → i < length es → times es (get_or es i 0) ≤ 1) → AllDiffer es
once-differ es once i j a b same = omega (arith, listed-twice es i j a b same, once j b)

pub differ-once : (es : List ℕ) (e : ℕ) → AllDiffer es → times es e ≤ 1
differ-once [] e d = let none : times [] e ≡ 0 = refl in omega (arith, none)
differ-once (x ∷ es) e d = grind (arith, nat_tests, times-cons x es e, differ-once es e (differ-tail x es d), not_held-times es x (differ-head x es d))

-- an ascending list has each number at most once
pub ascending-once : (es : List ℕ) (e : ℕ) → IsStrictlyIncreasing es → times es e ≤ 1
ascending-once es e up = differ-once es e (ascending-differ es up)

pub ascending-times : (es : List ℕ) (e : ℕ) → IsStrictlyIncreasing es → times es e ≡ cond (holds es e) 1 0
ascending-times es e up = times-holds es e (ascending-once es e up)
