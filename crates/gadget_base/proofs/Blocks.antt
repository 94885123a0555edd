-- Lemmas on lists made of blocks: how long they are, what stands at a place, what all their elements are, and one block more.
use Rattle.graph_theory.proofs.Common.{◌≡◌, ℕ, zero, suc, ◌+◌, ◌*◌, ◌-◌, ◌<◌, ◌≤◌, ℤ, Bool, true, false, cond, refl, ap, sym, ◌∙◌, arith, add-one, List}
use Rattle.graph_theory.proofs.Common.{[], ◌∷◌, ◌++◌, length, slice_index, slice_index_or, take, All, length-append, filter, get_or_append_left, get_or-append-add, append-nil}
use Rattle.graph_theory.proofs.Common.{ext_get_or, take_all, take-append-le, take-append-add, All-append, All-cons, All-nil, filter_more, sum_to, sum_to-same, sum_to-const}
use Rattle.std.proofs.lemmas.List.{append_assoc}
use Rattle.gadget_base.specs.Blocks.{blocks, tabled, row, rectangle}

-- how long they are

pub tabled-length : {A : Type 0} (f : ℕ → A) (n : ℕ) → length (tabled f n) ≡ n
tabled-length f zero = refl
tabled-length f (suc n) = omega (arith, length-append (tabled f n) (f n ∷ []), tabled-length f n)

pub blocks-length : {A : Type 0} (f : ℕ → List A) (n : ℕ) → length (blocks f n) ≡ sum_to (λ k. length (f k)) n
blocks-length f zero = refl
blocks-length f (suc n) = omega (arith, length-append (blocks f n) (f n), blocks-length f n)

pub row-length : (u before n : ℕ) (w : ℤ) → length (row u before n w) ≡ n
row-length u before n w = tabled-length (λ j. record { u = u; v = before + j + 1; w = w }) n

pub rectangle-length : (first m second n : ℕ) (w : ℤ) → length (rectangle first m second n w) ≡ m * n
rectangle-length first m second n w = blocks-length _ m ∙ sum_to-same _ (λ _. n) m (λ a _. row-length (first + a + 1) second n w) ∙ sum_to-const n m

-- a longer list in parts

pub tabled-append : {A : Type 0} (f : ℕ → A) (m n : ℕ) → tabled f (m + n) ≡ tabled f m ++ tabled (λ k. f (m + k)) n
tabled-append f m zero = ap (tabled f) (let e : m + 0 ≡ m = omega arith in e) ∙ sym (append-nil (tabled f m))
tabled-append f m (suc n) =
    ap (tabled f) (let e : m + suc n ≡ suc (m + n) = omega arith in e)
    ∙ ap (λ xs. xs ++ f (m + n) ∷ []) (tabled-append f m n)
    ∙ append_assoc (tabled f m) (tabled (λ k. f (m + k)) n) (f (m + n) ∷ [])

blocks-append : {A : Type 0} (f : ℕ → List A) (m n : ℕ) → blocks f (m + n) ≡ blocks f m ++ blocks (λ k. f (m + k)) n
blocks-append f m zero = ap (blocks f) (let e : m + 0 ≡ m = omega arith in e) ∙ sym (append-nil (blocks f m))
blocks-append f m (suc n) =
    ap (blocks f) (let e : m + suc n ≡ suc (m + n) = omega arith in e)
    ∙ ap (λ xs. xs ++ f (m + n)) (blocks-append f m n)
    ∙ append_assoc (blocks f m) (blocks (λ k. f (m + k)) n) (f (m + n))

-- what comes before a place, what stands there, and the rest

split-tabled : {A : Type 0} (f : ℕ → A) (k n : ℕ) → k < n → tabled f n ≡ (tabled f k ++ f k ∷ []) ++ tabled (λ j. f (suc k + j)) (n - suc k)
split-tabled f k n h = let e : n ≡ suc k + (n - suc k) = omega arith in ap (tabled f) e ∙ tabled-append f (suc k) (n - suc k)

split-blocks : {A : Type 0} (f : ℕ → List A) (k n : ℕ) → k < n → blocks f n ≡ (blocks f k ++ f k) ++ blocks (λ j. f (suc k + j)) (n - suc k)
split-blocks f k n h = let e : n ≡ suc k + (n - suc k) = omega arith in ap (blocks f) e ∙ blocks-append f (suc k) (n - suc k)

pub tabled-at : {A : Type 0} (f : ℕ → A) (n k : ℕ) (d : A) → k < n → slice_index_or (tabled f n) k d ≡ f k
tabled-at f n k d h =
    let size = tabled-length f k in
    let at : k ≡ length (tabled f k) + 0 = omega (arith, size) in
    ap (λ xs. slice_index_or xs k d) (split-tabled f k n h)
    ∙ get_or_append_left (tabled f k ++ f k ∷ []) _ d k (omega (arith, length-append (tabled f k) (f k ∷ []), size))
    ∙ ap (λ j. slice_index_or (tabled f k ++ f k ∷ []) j d) at
    ∙ get_or-append-add (tabled f k) (f k ∷ []) 0 d

pub blocks-at : {A : Type 0} (f : ℕ → List A) (n k j : ℕ) (d : A) → k < n → j < length (f k) → slice_index_or (blocks f n) (sum_to (λ k. length (f k)) k + j) d ≡ slice_index_or (f k) j d
blocks-at f n k j d h b =
    ap (λ xs. slice_index_or xs (sum_to (λ k. length (f k)) k + j) d) (split-blocks f k n h)
    ∙ get_or_append_left (blocks f k ++ f k) _ d _ (omega (arith, length-append (blocks f k) (f k), blocks-length f k))
    ∙ ap (λ s. slice_index_or (blocks f k ++ f k) (s + j) d) (sym (blocks-length f k))
    ∙ get_or-append-add (blocks f k) (f k) j d

-- a list whose elements are given by their places
pub is-tabled : (xs : List ℕ) (f : ℕ → ℕ) (n : ℕ) → length xs ≡ n → ((k : ℕ) → k < n → slice_index xs k ≡ f k) → xs ≡ tabled f n
is-tabled xs f n size each =
    ext_get_or 0 xs (tabled f n) (size ∙ sym (tabled-length f n)) (λ k b. let below : k < n = omega (arith, size, b) in each k below ∙ sym (tabled-at f n k 0 below))

-- one more

pub tabled-more : {A : Type 0} (f : ℕ → A) (n : ℕ) → tabled f (n + 1) ≡ tabled f n ++ f n ∷ []
tabled-more f n = rw add-one refl

pub blocks-more : {A : Type 0} (f : ℕ → List A) (n : ℕ) → blocks f (n + 1) ≡ blocks f n ++ f n
blocks-more f n = rw add-one refl

-- the same elements

pub tabled-same : {A : Type 0} (f g : ℕ → A) (n : ℕ) → ((k : ℕ) → k < n → f k ≡ g k) → tabled f n ≡ tabled g n
tabled-same f g zero h = refl
tabled-same f g (suc n) h = ap (λ xs. xs ++ f n ∷ []) (tabled-same f g n (λ k b. h k (omega arith))) ∙ ap (λ x. tabled g n ++ x ∷ []) (h n (omega arith))

pub blocks-same : {A : Type 0} (f g : ℕ → List A) (n : ℕ) → ((k : ℕ) → k < n → f k ≡ g k) → blocks f n ≡ blocks g n
blocks-same f g zero h = refl
blocks-same f g (suc n) h = ap (λ xs. xs ++ f n) (blocks-same f g n (λ k b. h k (omega arith))) ∙ ap (λ x. blocks g n ++ x) (h n (omega arith))

-- a longer list block by block, and row by row

pub tabled-blocks : {A : Type 0} (f : ℕ → A) (size : ℕ → ℕ) (n : ℕ) → tabled f (sum_to size n) ≡ blocks (λ k. tabled (λ r. f (sum_to size k + r)) (size k)) n
tabled-blocks f size zero = refl
tabled-blocks f size (suc n) = tabled-append f (sum_to size n) (size n) ∙ ap (λ xs. xs ++ tabled (λ r. f (sum_to size n + r)) (size n)) (tabled-blocks f size n)

pub tabled-rows : {A : Type 0} (f : ℕ → A) (m n : ℕ) → tabled f (m * n) ≡ blocks (λ a. tabled (λ j. f (a * n + j)) n) m
tabled-rows f m n = ap (tabled f) (sym (sum_to-const n m)) ∙ tabled-blocks f (λ _. n) m ∙ blocks-same _ _ m (λ a _. rw (sum_to-const n a) refl)

-- the first of them

pub take-tabled : {A : Type 0} (f : ℕ → A) (k n : ℕ) → k < n → take k (tabled f n) ≡ tabled f k
take-tabled f k n h =
    let size = tabled-length f k in
    ap (take k) (split-tabled f k n h ∙ append_assoc (tabled f k) (f k ∷ []) _) ∙ take-append-le k (tabled f k) _ (omega (arith, size))
    ∙ take_all k (tabled f k) (omega (arith, size))

pub take-blocks : {A : Type 0} (f : ℕ → List A) (k n j : ℕ) → k < n → j ≤ length (f k) → take (length (blocks f k) + j) (blocks f n) ≡ blocks f k ++ take j (f k)
take-blocks f k n j h b =
    ap (take _) (split-blocks f k n h)
    ∙ take-append-le _ (blocks f k ++ f k) _ (omega (arith, length-append (blocks f k) (f k)))
    ∙ take-append-add (blocks f k) (f k) j

-- in pairs
pub tabled-pairs : {A : Type 0} (f : ℕ → A) (m : ℕ) → tabled f (2 * m) ≡ blocks (λ k. f (2 * k) ∷ f (2 * k + 1) ∷ []) m
tabled-pairs f zero = refl
tabled-pairs f (suc m) =
    ap (tabled f) (let e : 2 * suc m ≡ suc (suc (2 * m)) = omega arith in e)
    ∙ append_assoc (tabled f (2 * m)) (f (2 * m) ∷ []) (f (suc (2 * m)) ∷ [])
    ∙ ap (λ xs. xs ++ (f (2 * m) ∷ f (suc (2 * m)) ∷ [])) (tabled-pairs f m)
    ∙ ap (λ x. blocks (λ k. f (2 * k) ∷ f (2 * k + 1) ∷ []) m ++ (f (2 * m) ∷ f x ∷ [])) (let e : suc (2 * m) ≡ 2 * m + 1 = omega arith in e)

-- what all elements are

pub All-tabled : {A : Type 0} (P : A → Type 0) (f : ℕ → A) (n : ℕ) → ((k : ℕ) → k < n → P (f k)) → All P (tabled f n)
All-tabled P f zero h = All-nil P
All-tabled P f (suc n) h = All-append P (tabled f n) (f n ∷ []) (All-tabled P f n (λ k b. h k (omega arith))) (All-cons P (f n) [] (h n (omega arith)) (All-nil P))

pub All-blocks : {A : Type 0} (P : A → Type 0) (f : ℕ → List A) (n : ℕ) → ((k : ℕ) → k < n → All P (f k)) → All P (blocks f n)
All-blocks P f zero h = All-nil P
All-blocks P f (suc n) h = All-append P (blocks f n) (f n) (All-blocks P f n (λ k b. h k (omega arith))) (h n (omega arith))

-- blocks that are none where a test passes

pub length-unless : {A : Type 0} (t : Bool) (xs : List A) → length (cond t [] xs) ≡ cond t 0 (length xs)
length-unless true xs = refl
length-unless false xs = refl

pub All-unless : {A : Type 0} (P : A → Type 0) (t : Bool) (xs : List A) → (t ≡ false → All P xs) → All P (cond t [] xs)
All-unless P true xs h = All-nil P
All-unless P false xs h = h refl

-- the first n elements of a list without those that don't pass a test, as such blocks
first_filtered : {A : Type 0} (p : A → Bool) (d : A) (xs : List A) (n : ℕ) → n ≤ length xs
    → filter p (take n xs) ≡ blocks (λ k. cond (p (slice_index_or xs k d)) (slice_index_or xs k d ∷ []) []) n
first_filtered p d xs zero h = refl
first_filtered {A} p d xs (suc n) h =
    let f : ℕ → List A = λ k. cond (p (slice_index_or xs k d)) (slice_index_or xs k d ∷ []) [] in
    ap (λ j. filter p (take j xs)) (let e : suc n ≡ n + 1 = omega arith in e)
    ∙ filter_more p xs n d (omega arith)
    ∙ ap (λ l. l ++ f n) (first_filtered p d xs n (omega arith))

pub filter-blocks : {A : Type 0} (p : A → Bool) (d : A) (xs : List A) → filter p xs ≡ blocks (λ k. cond (p (slice_index_or xs k d)) (slice_index_or xs k d ∷ []) []) (length xs)
filter-blocks p d xs = ap (filter p) (sym (take_all (length xs) xs (omega arith))) ∙ first_filtered p d xs (length xs) (omega arith)
