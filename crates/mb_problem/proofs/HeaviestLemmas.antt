-- The greatest of numbers, one number further.
use Rattle.graph_theory.proofs.Common.{◌≡◌, ℕ, ℤ, ◌+◌, Option, add-one, ap₂, ◌∙◌}
use Rattle.mb_problem.specs.Heaviest.{greater_of, greatest_to}

pub greatest-more : (f : ℕ → Option ℤ) (k : ℕ) (greatest weight result : Option ℤ) → greatest ≡ greatest_to f k → weight ≡ f k → result ≡ greater_of greatest weight
    → result ≡ greatest_to f (k + 1)
greatest-more f k greatest weight result so_far here is = rw add-one (is ∙ ap₂ greater_of so_far here)
