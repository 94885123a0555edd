-- Edge lines as tools write them: a letter, three numbers with one space before each, a line feed.
use Rattle.std.specs.Prelude.{Bool, ◌≡◌, ◌<◌, ◌==◌, ◌||◌, ℕ, true, false, List, ◌∷◌, ◌++◌}
use Rattle.std.specs.Prelude.{length, take, Option, Some, Ok, ℤ}
use Rattle.std.specs.List.{list_all, after_first}
use Rattle.mb_base.specs.Text.{lines, fields, natural, numeral, is_digit, is_line_feed}
use Rattle.mb_problem.specs.declared.instance.InstanceEdge.{InstanceEdge}
use Rattle.dimacs_read.specs.declared.line.Header.{Header}
use Rattle.dimacs_read.specs.declared.keep.Line.TheVariants as line
use Rattle.dimacs_read.specs.Rows.{is_solution}
use Rattle.dimacs_read.specs.Reading.{GivesLine}

-- digits stand at the front, then this byte, and then the rest
pub record LeadsWith (bytes : List ℕ) (mark value : ℕ) (rest : List ℕ) : Type 0 where
  pub digits : List ℕ
  pub whole : bytes ≡ digits ++ mark ∷ rest
  pub spelled : natural digits ≡ Some value

-- a byte of a number
abbrev pub is_numeric : ℕ → Bool
is_numeric b = is_digit b || (b == 45)

-- a number stands at the front, then a line feed, and then the rest
pub record LeadsWithWeight (bytes : List ℕ) (weight : ℤ) (rest : List ℕ) : Type 0 where
  pub field : List ℕ
  pub whole : bytes ≡ field ++ 10 ∷ rest
  pub numeric : list_all is_numeric field ≡ true
  pub spelled : numeral field ≡ Some weight

-- the first line of some bytes, which begins no document, and what follows it
pub record BeginsWith (bytes text after : List ℕ) : Type 0 where
  pub line : lines bytes ≡ text ∷ lines after
  pub after_is : after ≡ after_first is_line_feed bytes
  pub shorter : length after < length bytes
  pub no_solution : is_solution (fields text) ≡ false

-- the first line is that of an edge, whatever earlier lines named
pub record IsPlainEdge (earlier : Option Header) (bytes : List ℕ) (edge : InstanceEdge)
    (after : List ℕ) : Type 0 where
  pub text : List ℕ
  pub begins : BeginsWith bytes text after
  pub given : (bounds : Bool) (named : ℕ → Bool) (count : ℕ) → GivesLine bounds earlier named count
      (take 6 (fields text)) (Ok (line.Edge edge))
