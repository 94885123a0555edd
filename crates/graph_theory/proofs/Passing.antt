-- The numbers from 1 to k that pass a test, ascending.
use Rattle.graph_theory.proofs.Common.{◌≡◌, ℕ, zero, suc, ◌+◌, ◌<◌, ◌≤◌, Bool, true, false, cond, eqb, refl, ap, sym, ◌∙◌, inl, inr, arith, List, [], ◌∷◌}
use Rattle.graph_theory.proofs.Common.{◌++◌, length, map, All, add-one, IsStrictlyIncreasing, eq-eqb, eqb-true, or_cases, or_right, cases_eq, false≢true, or_left, length_push}
use Rattle.graph_theory.proofs.Common.{map-append, All-nil, All-push, All-weaker, holds, IsVertexSet, holds-push, holds_all, increasing-push, same_list, same_tests}

abbrev pub passing : (ℕ → Bool) → ℕ → List ℕ
passing p zero = []
passing p (suc k) = cond (p (suc k)) (passing p k ++ suc k ∷ []) (passing p k)

pub passing-more : (p : ℕ → Bool) (k : ℕ) → passing p (k + 1) ≡ cond (p (k + 1)) (passing p k ++ (k + 1) ∷ []) (passing p k)
passing-more p k = rw add-one refl

-- one number more, as a list of them
pub passing-push : (p : ℕ → Bool) (k : ℕ) (xs ys : List ℕ) → xs ≡ passing p k → ys ≡ cond (p (k + 1)) (xs ++ (k + 1) ∷ []) xs → ys ≡ passing p (k + 1)
passing-push p k xs ys before now = now ∙ (ap (λ (zs : List ℕ). cond (p (k + 1)) (zs ++ (k + 1) ∷ []) zs) before ∙ sym (passing-more p k))

map-cond : {A : Type 0} (f : ℕ → A) (t : Bool) (x : ℕ) (xs : List ℕ) → map f (cond t (xs ++ x ∷ []) xs) ≡ cond t (map f xs ++ f x ∷ []) (map f xs)
map-cond f true x xs = map-append f xs (x ∷ [])
map-cond f false x xs = refl

-- .. or of something for each of them
pub lines-push : {A : Type 0} (f : ℕ → A) (p : ℕ → Bool) (k : ℕ) (xs ys : List A) → xs ≡ map f (passing p k) → ys ≡ cond (p (k + 1)) (xs ++ f (k + 1) ∷ []) xs
    → ys ≡ map f (passing p (k + 1))
lines-push f p k xs ys before now =
    now ∙ (ap (λ zs. cond (p (k + 1)) (zs ++ f (k + 1) ∷ []) zs) before ∙ (sym (map-cond f (p (k + 1)) (k + 1) (passing p k)) ∙ ap (map f) (sym (passing-more p k))))

-- a list with one element more, or as it is
by_test : (P : List ℕ → Type 0) (t : Bool) (xs ys : List ℕ) → (t ≡ true → P xs) → (t ≡ false → P ys) → P (cond t xs ys)
by_test P true xs ys f g = f refl
by_test P false xs ys f g = g refl

pub passing-range : (p : ℕ → Bool) (k : ℕ) → All (λ v. (1 ≤ v) × (v ≤ k)) (passing p k)
passing-range p zero = All-nil (λ v. (1 ≤ v) × (v ≤ 0))
passing-range p (suc k) =
    let before : All (λ v. (1 ≤ v) × (v ≤ suc k)) (passing p k) = All-weaker (λ v. (1 ≤ v) × (v ≤ k)) (λ v. (1 ≤ v) × (v ≤ suc k))
    (λ v h. (h.0, let high : v ≤ k = h.1 in omega arith)) (passing p k) (passing-range p k) in
    by_test (λ xs. All (λ v. (1 ≤ v) × (v ≤ suc k)) xs) (p (suc k)) (passing p k ++ suc k ∷ []) (passing p k)
    (λ t. All-push (λ v. (1 ≤ v) × (v ≤ suc k)) (passing p k) (suc k) before (omega arith, omega arith))
    (λ t. before)

pub passing-ascends : (p : ℕ → Bool) (k : ℕ) → IsStrictlyIncreasing (passing p k)
passing-ascends p zero = λ j h. absurd (omega arith)
passing-ascends p (suc k) =
    let below : All (λ x. x < suc k) (passing p k) = All-weaker (λ v. (1 ≤ v) × (v ≤ k)) (λ x. x < suc k) (λ v h. (let high : v ≤ k = h.1 in omega arith)) (passing p k)
    (passing-range p k) in
    by_test IsStrictlyIncreasing (p (suc k)) (passing p k ++ suc k ∷ []) (passing p k)
    (λ t. increasing-push (passing p k) (suc k) (passing-ascends p k) below)
    (λ t. passing-ascends p k)

pub passing-few : (p : ℕ → Bool) (k : ℕ) → length (passing p k) ≤ k
passing-few p zero = omega arith
passing-few p (suc k) =
    by_test (λ xs. length xs ≤ suc k) (p (suc k)) (passing p k ++ suc k ∷ []) (passing p k)
    (λ t. omega (arith, passing-few p k, length_push (passing p k) (suc k)))
    (λ t. omega (arith, passing-few p k))

-- each passes
pub passing-only : (p : ℕ → Bool) (k v : ℕ) → holds (passing p k) v ≡ true → p v ≡ true
passing-only p zero v h = absurd (cc)
passing-only p (suc k) v there =
    by_test (λ xs. holds xs v ≡ true → p v ≡ true) (p (suc k)) (passing p k ++ suc k ∷ []) (passing p k)
    (λ t h. elim (or_cases (holds (passing p k) v) (eqb (suc k) v) (sym (holds-push (passing p k) (suc k) v) ∙ h)) [
      | inl earlier ↦ passing-only p k v earlier
      | inr here ↦ ap p (sym (eqb-true (suc k) v here)) ∙ t
    ])
    (λ t h. passing-only p k v h)
    there

-- and each that passes is there
pub passing-all : (p : ℕ → Bool) (k v : ℕ) → 1 ≤ v → v ≤ k → p v ≡ true → holds (passing p k) v ≡ true
passing-all p zero v low high t = absurd (omega arith)
passing-all p (suc k) v low high t =
    elim (cases_eq v (suc k)) [
      | inl e ↦
          by_test (λ xs. holds xs v ≡ true) (p (suc k)) (passing p k ++ suc k ∷ []) (passing p k)
          (λ s. holds-push (passing p k) (suc k) v ∙ or_right (holds (passing p k) v) (eqb (suc k) v) (eq-eqb (suc k) v (sym e)))
          (λ s. absurd (false≢true (sym s ∙ ap p (sym e) ∙ t)))
      | inr d ↦
          let there : holds (passing p k) v ≡ true = passing-all p k v low (omega arith) t in
          by_test (λ xs. holds xs v ≡ true) (p (suc k)) (passing p k ++ suc k ∷ []) (passing p k)
          (λ s. holds-push (passing p k) (suc k) v ∙ or_left (holds (passing p k) v) (eqb (suc k) v) there)
          (λ s. there)
    ]

pub passing-holds : (p : ℕ → Bool) (k v : ℕ) → 1 ≤ v → v ≤ k → holds (passing p k) v ≡ p v
passing-holds p k v low high = same_tests (holds (passing p k) v) (p v) (passing-only p k v) (passing-all p k v low high)

-- the members of a set of vertices are those that it holds
pub members-passing : (n : ℕ) (set : List ℕ) → IsVertexSet n set → passing (holds set) n ≡ set
members-passing n set is =
    same_list (passing (holds set) n) set (passing-ascends (holds set) n) is.ascending
    (passing-only (holds set) n)
    (λ v h. (let range : (1 ≤ v) × (v ≤ n) = holds_all (λ w. (1 ≤ w) × (w ≤ n)) set v is.in_range h in passing-all (holds set) n v range.0 range.1 h))
