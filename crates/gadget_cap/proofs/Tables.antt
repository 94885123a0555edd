-- Lists of counts in parts and in rows.
use Rattle.gadget_base.proofs.Common.{tabled, tabled-append}
use Rattle.std.proofs.Common.{◌≡◌, ℕ, ◌+◌, ap, ◌∙◌, ◌++◌}

-- a list in three parts
pub tabled-three : (f : ℕ → ℕ) (a b c : ℕ) → tabled f (a + (b + c)) ≡ tabled f a ++ (tabled (λ r. f (a + r)) b ++ tabled (λ r. f (a + (b + r))) c)
tabled-three f a b c = tabled-append f a (b + c) ∙ ap (λ xs. tabled f a ++ xs) (tabled-append (λ r. f (a + r)) b c)
