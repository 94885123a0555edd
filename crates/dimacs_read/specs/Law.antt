-- What lines say, they say in exactly one way.
use Rattle.std.specs.Prelude.{◌≡◌, ℕ, ◌⊎◌, List}
use Rattle.mb_base.specs.Rows.{Row}
use Rattle.mb_problem.specs.declared.kind.Kind.{Kind}
use Rattle.mb_problem.specs.Network.{Network}
use Rattle.dimacs_read.specs.declared.rule.Rule.{Rule}
use Rattle.dimacs_read.specs.declared.rest.Rest.{Rest}
use Rattle.dimacs_read.specs.Rest.{IsRest}
use Rattle.dimacs_read.specs.Format.{IsFirstFault, HoldsInstance}

-- lines hold an instance or have a first fault
abbrev pub EachIsRead : Type 0
EachIsRead = (kind : Kind) (rs : List Row) → ((i : Network) × HoldsInstance kind rs i) ⊎
    ((rule : Rule) × (line : ℕ) × IsFirstFault kind rs rule line)

abbrev pub OneFault : Type 0
OneFault = (kind : Kind) (rs : List Row) (p q : Rule) (m n : ℕ) → IsFirstFault kind rs p m
    → IsFirstFault kind rs q n → (p ≡ q) × (m ≡ n)

abbrev pub OneInstance : Type 0
OneInstance = (kind : Kind) (rs : List Row) (i j : Network) → HoldsInstance kind rs i
    → HoldsInstance kind rs j → i ≡ j

abbrev pub NoInstanceAndFault : Type 0
NoInstanceAndFault = (kind : Kind) (rs : List Row) (i : Network) (rule : Rule) (line : ℕ)
    → HoldsInstance kind rs i → IsFirstFault kind rs rule line → ⊥

-- one thing follows the instance of a text
abbrev pub OneRest : Type 0
OneRest = (bytes : List ℕ) (r s : Rest) → IsRest bytes r → IsRest bytes s → r ≡ s
