-- Tests of each element of a list.
use Rattle.graph_theory.proofs.Common.{◌≡◌, ◌++◌, ◌∷◌, [], ◌&&◌, List, Bool, true, refl, sym, ◌∙◌, list_all, AllByRecursion, and_parts, and_from, list_all-append}

pub all_parts : {A : Type 0} (p : A → Bool) (xs ys : List A) → list_all p (xs ++ ys) ≡ true → (list_all p xs ≡ true) × (list_all p ys ≡ true)
all_parts p xs ys h = and_parts (list_all p xs) (list_all p ys) (sym (list_all-append p xs ys) ∙ h)

pub list_all-push : {A : Type 0} (p : A → Bool) (xs : List A) (x : A) → list_all p xs ≡ true → p x ≡ true → list_all p (xs ++ x ∷ []) ≡ true
list_all-push p xs x a b = list_all-append p xs (x ∷ []) ∙ and_from (list_all p xs) (p x && true) a (and_from (p x) true b refl)

-- lists, one behind another
abbrev pub joined : {A : Type 0} → List (List A) → List A
joined [] = []
joined (xs ∷ xss) = xs ++ joined xss

-- a test of all elements is one of each list
pub each_list : {A : Type 0} (p : A → Bool) (xss : List (List A)) → list_all p (joined xss) ≡ true → AllByRecursion (λ xs. list_all p xs ≡ true) xss
each_list p [] h = tt
each_list p (xs ∷ xss) h = (let both = all_parts p xs (joined xss) h in (both.0, each_list p xss both.1))
