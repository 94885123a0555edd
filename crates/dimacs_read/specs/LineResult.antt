-- What is said of the next line of an instance.
use Rattle.std.specs.Prelude.{Bool, ◌≡◌, ℕ, List, [], take, Option, Ok, Err}
use Rattle.mb_base.specs.Text.{fields}
use Rattle.mb_base.specs.Rows.{rows}
use Rattle.dimacs_read.specs.declared.line.Header.{Header}
use Rattle.dimacs_read.specs.declared.reader.LineResult.{LineResult}
use Rattle.dimacs_read.specs.declared.reader.LineResult.TheVariants as turn
use Rattle.dimacs_read.specs.Rows.{instance_rows}
use Rattle.dimacs_read.specs.Reading.{GivesLine}
use Rattle.dimacs_read.specs.Plain.{BeginsWith}

-- there is no line of the instance, or the first has a fault or none, by six of its fields
abbrev pub GivesTurn : Bool → Option Header → (ℕ → Bool) → ℕ → List ℕ → LineResult → Type 0
GivesTurn bounds header named count rest turn.Ended = instance_rows (rows rest) ≡ []
GivesTurn bounds header named count rest (turn.Broken rule) = (text : List ℕ) × (after : List ℕ)
    × BeginsWith rest text after
    × GivesLine bounds header named count (take 6 (fields text)) (Err rule)
GivesTurn bounds header named count rest (turn.Found l after) = (text : List ℕ)
    × BeginsWith rest text after.now
    × GivesLine bounds header named count (take 6 (fields text)) (Ok l)
