-- What follows an instance in a text.
use Rattle.std.specs.Prelude.{◌≡◌, ℕ, zero, suc, ◌+◌, List, length}
use Rattle.std.specs.List.{after_first}
use Rattle.mb_base.specs.Text.{is_line_feed}
use Rattle.mb_base.specs.Rows.{rows}
use Rattle.dimacs_read.specs.Rows.{instance_rows}
use Rattle.dimacs_read.specs.declared.rest.Rest.{Rest}

-- the bytes after the first k lines
abbrev pub after_lines : ℕ → List ℕ → List ℕ
after_lines zero bytes = bytes
after_lines (suc k) bytes = after_lines k (after_first is_line_feed bytes)

-- the bytes after the lines of the instance, and the number of the line after them
pub record IsRest (bytes : List ℕ) (rest : Rest) : Type 0 where
  pub bytes_are : rest.bytes ≡ after_lines (length (instance_rows (rows bytes))) bytes
  pub line_is : rest.line ≡ length (instance_rows (rows bytes)) + 1
