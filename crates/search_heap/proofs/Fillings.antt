-- Tables in which one value stands throughout until something is written.
use Rattle.std.proofs.Common.{◌≡◌, ℕ, ◌<◌, List, [], ◌∷◌, length, get_or, set, replicate, refl, sym, ap, ◌∙◌, arith}
use Rattle.std.proofs.lemmas.List.{length-replicate, length-set}
use Rattle.graph_theory.proofs.Members.{everywhere as same_at}
use Rattle.search_heap.specs.Heaps.{filled}

pub filled_at : {A : Type 0} (n : ℕ) (value : A) (xs : List A) (s : ℕ) → get_or (filled n value xs) s value ≡ get_or xs s value
filled_at n value [] s = same_at value n s
filled_at n value (x ∷ xs) s = refl

pub filled_some : {A : Type 0} (n : ℕ) (value : A) (xs : List A) → 0 < length xs → filled n value xs ≡ xs
filled_some n value [] some = absurd (omega (arith, some))
filled_some n value (x ∷ xs) some = refl

pub filled_size : {A : Type 0} (n : ℕ) (value : A) (xs : List A) → (0 < length xs → length xs ≡ n) → length (filled n value xs) ≡ n
filled_size n value [] whole = length-replicate n value
filled_size n value (x ∷ xs) whole = whole (omega arith)

pub filled_same : {A : Type 0} (n : ℕ) (value : A) (xs : List A) → xs ≡ replicate (length xs) value → filled n value xs ≡ replicate (length (filled n value xs)) value
filled_same n value [] is = sym (ap (λ k. replicate k value) (length-replicate n value))
filled_same n value (x ∷ xs) is = is

pub filled_set : {A : Type 0} (n m : ℕ) (value : A) (xs ys : List A) (s : ℕ) (x : A) → 0 < length xs → ys ≡ set xs s x → filled m value ys ≡ set (filled n value xs) s x
filled_set n m value xs ys s x some is =
    filled_some m value ys (omega (arith, some, ap length is, length-set xs s x)) ∙ is ∙ ap (λ l. set l s x) (sym (filled_some n value xs some))
