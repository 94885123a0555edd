-- Tables as functions, with one entry changed.
use Rattle.graph_theory.proofs.Common.{◌≡◌, ◌≢◌, ℕ, ◌<◌, Bool, true, false, cond, eqb, List, length, get_or, set, refl, ap, ◌∙◌, eq-eqb, ne_eqb, eqb-true, eqb-false}
use Rattle.graph_theory.proofs.Common.{cond_both, get_or-set_other, get_or-set_same}
use Rattle.circular_lists.specs.Updates.{put}

pub put_here : {A : Type 0} (f : ℕ → A) (a : ℕ) (x : A) → put f a x a ≡ x
put_here f a x = ap (λ t. cond t x (f a)) (eq-eqb a a refl)

pub put_other : {A : Type 0} (f : ℕ → A) (a : ℕ) (x : A) (c : ℕ) → c ≢ a → put f a x c ≡ f c
put_other f a x c ne = ap (λ t. cond t x (f c)) (ne_eqb c a ne)

-- what holds of the new entry at its place, and of the old ones at the others
pub put_both : {A : Type 0} (P : A → Type 0) (f : ℕ → A) (a : ℕ) (x : A) (c : ℕ) → (c ≡ a → P x) → (c ≢ a → P (f c)) → P (put f a x c)
put_both P f a x c here other = cond_both (eqb c a) x (f c) P (λ t. here (eqb-true c a t)) (λ t. other (eqb-false c a t))

-- an entry written twice
pub put_twice : {A : Type 0} (f : ℕ → A) (a : ℕ) (x y : A) → put (put f a x) a y ≡ put f a y
put_twice f a x y = λ i c. twice c (eqb c a) i
  where
    twice : (c : ℕ) (t : Bool) → cond t y (cond t x (f c)) ≡ cond t y (f c)
    twice c true = refl
    twice c false = refl

-- a list with another entry at one place
pub put_entry : {A : Type 0} (xs : List A) (a : ℕ) (x d : A) → a < length xs → (λ c. get_or (set xs a x) c d) ≡ put (λ c. get_or xs c d) a x
put_entry xs a x d low = λ i c. value c i
  where
    value : (c : ℕ) → get_or (set xs a x) c d ≡ put (λ k. get_or xs k d) a x c
    value c = put_both (λ y. get_or (set xs a x) c d ≡ y) (λ k. get_or xs k d) a x c
        (λ here. ap (λ k. get_or (set xs a x) k d) here ∙ get_or-set_same xs a x d low)
        (λ ne. get_or-set_other xs a c x d ne)
