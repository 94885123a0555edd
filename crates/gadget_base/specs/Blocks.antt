-- Lists made of one block for each of the numbers 0 to n - 1, and edges in rows.
use Rattle.std.specs.Prelude.{ℕ, zero, suc, ◌+◌, ◌-◌, ℤ, List, [], ◌∷◌, ◌++◌}
use Rattle.graph_theory.specs.declared.edge.Edge.{Edge}

-- the blocks of the numbers below n, one after another
abbrev pub blocks : {A : Type 0} → (ℕ → List A) → ℕ → List A
blocks f zero = []
blocks f (suc n) = blocks f n ++ f n

-- an element for each number below n
abbrev pub tabled : {A : Type 0} → (ℕ → A) → ℕ → List A
tabled f zero = []
tabled f (suc n) = tabled f n ++ f n ∷ []

-- an edge of weight w from vertex u to each of the n vertices after `before`
abbrev pub row : ℕ → ℕ → ℕ → ℤ → List Edge
row u before n w = tabled (λ j. record { u = u; v = before + j + 1; w = w }) n

-- an edge of weight w from each of the m vertices after `first` to each of the n vertices after
-- `second`, row by row
abbrev pub rectangle : ℕ → ℕ → ℕ → ℕ → ℤ → List Edge
rectangle first m second n w = blocks (λ a. row (first + a + 1) second n w) m

-- an edge of weight w between any two of the n vertices after `before`, the lesser end first and
-- slowest
abbrev pub clique : ℕ → ℕ → ℤ → List Edge
clique before n w = blocks (λ a. row (before + a + 1) (before + a + 1) (n - 1 - a) w) n
