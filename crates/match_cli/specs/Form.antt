-- The form of a command: how many words there are, and where a hyphen may stand first.
use Rattle.std.specs.Prelude.{ℕ, List, [], ◌∷◌, Bool, codes, true, false, not, ◌&&◌, ◌||◌, nat_eq}
use Rattle.std.specs.Str.{bytes_eq}

-- no hyphen (45) stands first
abbrev pub is_operand : List ℕ → Bool
is_operand [] = true
is_operand (x ∷ xs) = not (nat_eq x 45)

abbrev pub after_name_form : List (List ℕ) → Bool
after_name_form (a ∷ k ∷ []) = (bytes_eq a (codes "solve") || bytes_eq a (codes "check"))
    && is_operand k
after_name_form (a ∷ b ∷ c ∷ []) = bytes_eq a (codes "solve")
    && ((is_operand b && bytes_eq c (codes "--brief")) || (bytes_eq b (codes "--brief")
    && is_operand c))
after_name_form (a ∷ k ∷ s ∷ n ∷ m ∷ []) = bytes_eq a (codes "trial")
    && (is_operand k && (is_operand s && (is_operand n && is_operand m)))
after_name_form _ = false

-- the words have the form of a command
abbrev pub has_form : List (List ℕ) → Bool
has_form [] = false
has_form (name ∷ words) = after_name_form words
