-- What the numbers of a line are.
use Rattle.std.specs.Prelude.{ℕ, ℤ, pos, List, [], ◌∷◌, length, Bool, if◌then◌else◌, Option, None}
use Rattle.std.specs.Prelude.{Some}
use Rattle.std.specs.Ordering.{int_eq}
use Rattle.graph_theory.specs.declared.limits.TheConstants.{NUMBER_LIMIT}
use Rattle.mb_base.specs.Text.{number_of}
use Rattle.mb_base.specs.Rows.{Row}

infixl 10 ◌>>=◌
abbrev pub ◌>>=◌ : {A B : Type 0} → Option A → (A → Option B) → Option B
None >>= f = None
(Some x) >>= f = f x

-- a value where a test holds
abbrev pub only_if : {A : Type 0} → Bool → A → Option A
only_if b x = if b then Some x else None

-- numbers beyond the limit are kept as that and one more, with their sign
abbrev pub kept : List ℕ → Option ℤ
kept field = number_of NUMBER_LIMIT field

-- two numbers and nothing else
abbrev pub two_numbers : Row → Option (ℤ × ℤ)
two_numbers [] = None
two_numbers (a ∷ []) = None
two_numbers (a ∷ b ∷ []) = kept a >>= λ x. kept b >>= λ y. Some (x, y)
two_numbers (a ∷ b ∷ c ∷ more) = None

-- numbers alone
abbrev pub numbers : Row → Option (List ℤ)
numbers [] = Some []
numbers (field ∷ others) = kept field >>= λ z. numbers others >>= λ zs. Some (z ∷ zs)

-- a count, and so many numbers
abbrev pub counted : Row → Option (List ℤ)
counted [] = None
counted (k ∷ others) = kept k >>= λ n. numbers others >>= λ zs. only_if (int_eq n (pos (length zs)))
    zs

-- a number, and a count with so many numbers
abbrev pub led : Row → Option (ℤ × List ℤ)
led [] = None
led (first ∷ others) = kept first >>= λ z. counted others >>= λ zs. Some (z, zs)

-- numbers after their count
abbrev pub with_count : List ℤ → List ℤ
with_count zs = pos (length zs) ∷ zs
