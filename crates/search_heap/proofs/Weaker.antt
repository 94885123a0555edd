-- What holds of a number that is found, or where none is, and what follows from it.
use Rattle.graph_theory.proofs.Common.{ℕ, Option, Some, None, IfSome, IfNone}

pub some_weaker : {P Q : ℕ → Type 0} (o : Option ℕ) → ((s : ℕ) → P s → Q s) → IfSome o P → IfSome o Q
some_weaker None follows h = h
some_weaker (Some s) follows h = follows s h

pub none_weaker : {P Q : Type 0} (o : Option ℕ) → (P → Q) → IfNone o P → IfNone o Q
none_weaker None follows h = follows h
none_weaker (Some s) follows h = h
