-- Natural numbers as the numbers of lines.
use Rattle.certificates.proofs.Common.{◌≡◌, ℕ, zero, suc, ◌+◌, ◌-◌, ◌<◌, ◌≤◌, pos, true, List, [], ◌∷◌, length, map, All, get_or, refl, ap, ◌∙◌, subst}
use Rattle.certificates.proofs.Common.{arith, int_lt, range_with_len, IsStrictlyIncreasing, ints, All-nil, All-cons, All-head, All-tail, ext_get_or, length-map-range_with_len}
use Rattle.certificates.proofs.Common.{get_or-map-range_with_len, and_from, numbers}
use Rattle.doc_format.specs.Form.{ascends}

int_lt-pos : (a b : ℕ) → a < b → int_lt (pos a) (pos b) ≡ true
int_lt-pos a b h = grind (arith, ints)

tail_increasing : (x : ℕ) (xs : List ℕ) → IsStrictlyIncreasing (x ∷ xs) → IsStrictlyIncreasing xs
tail_increasing x xs up = λ k h. (let e : suc k + 1 ≡ suc (k + 1) = omega arith in subst (λ (j : ℕ). get_or (x ∷ xs) (suc k) 0 < get_or (x ∷ xs) j 0) e (up (suc k) (omega arith)))

pub ascends-pos : (xs : List ℕ) → IsStrictlyIncreasing xs → ascends (map pos xs) ≡ true
ascends-pos [] up = refl
ascends-pos (x ∷ []) up = refl
ascends-pos (x ∷ y ∷ ys) up = and_from (int_lt (pos x) (pos y)) (ascends (map pos (y ∷ ys))) (int_lt-pos x y (up 0 (omega arith))) (ascends-pos (y ∷ ys) (tail_increasing x (y ∷ ys) up))

pub numbers-pos : (xs : List ℕ) → numbers (map pos xs) ≡ xs
numbers-pos [] = refl
numbers-pos (x ∷ xs) = ap (λ ys. x ∷ ys) (numbers-pos xs)

pub map-map : {A B C : Type 0} (f : B → C) (h : A → B) (xs : List A) → map f (map h xs) ≡ map (λ x. f (h x)) xs
map-map f h [] = refl
map-map f h (x ∷ xs) = ap (λ ys. f (h x) ∷ ys) (map-map f h xs)

-- two functions that agree from a on, n numbers long
pub map-range-same : {A : Type 0} (f h : ℕ → A) (a n : ℕ) → ((e : ℕ) → a ≤ e → e < a + n → f e ≡ h e) → map f (range_with_len a n) ≡ map h (range_with_len a n)
map-range-same f h a zero same = refl
map-range-same f h a (suc n) same =
    let first : f a ≡ h a = same a (omega arith) (omega arith) in
    let rest : map f (range_with_len (a + 1) n) ≡ map h (range_with_len (a + 1) n) = map-range-same f h (a + 1) n (λ e low high. same e (omega arith) (omega arith)) in
    ap (λ x. x ∷ map f (range_with_len (a + 1) n)) first ∙ ap (λ xs. h a ∷ xs) rest

-- the items of a list, one for each number of a place
pub each-place : {A : Type 0} (d : A) (xs : List A) → map (λ e. get_or xs (e - 1) d) (range_with_len 1 (length xs)) ≡ xs
each-place {A} d xs =
    let n = length xs in
    let f : ℕ → A = λ e. get_or xs (e - 1) d in
    let long : length (map f (range_with_len 1 n)) ≡ n = length-map-range_with_len f 1 n in
    ext_get_or d (map f (range_with_len 1 n)) xs long
    (λ k h. (let at : get_or (map f (range_with_len 1 n)) k d ≡ f (k + 1) = get_or-map-range_with_len f 1 n k (k + 1) d (omega arith) (omega arith) in
    at ∙ ap (λ (p : ℕ). get_or xs p d) (let e : k + 1 - 1 ≡ k = omega arith in e)))

-- facts on each element

pub unmap : {A B : Type 0} (P : B → Type 0) (f : A → B) (xs : List A) → All P (map f xs) → All (λ x. P (f x)) xs
unmap P f [] h = All-nil (λ x. P (f x))
unmap P f (x ∷ xs) h = All-cons (λ x. P (f x)) x xs (All-head P (f x) (map f xs) h) (unmap P f xs (All-tail P (f x) (map f xs) h))

pub both_all : {A : Type 0} (P Q R : A → Type 0) (xs : List A) → ((x : A) → P x → Q x → R x) → All P xs → All Q xs → All R xs
both_all P Q R xs join p q = λ k d b. join _ (p k d b) (q k d b)

pub all-mapped : {A B : Type 0} (P : B → Type 0) (f : A → B) (xs : List A) → ((x : A) → P (f x)) → All P (map f xs)
all-mapped P f [] each = All-nil P
all-mapped P f (x ∷ xs) each = All-cons P (f x) (map f xs) (each x) (all-mapped P f xs each)
