-- One line more is read.
use Rattle.mb_problem.proofs.Common.{Bool, ◌≡◌, ℕ, ◌+◌, List, [], ◌∷◌, length, Option, take, drop, Ok, refl, sym, ap, ◌∙◌, arith, after_first}
use Rattle.mb_base.specs.Text.{fields, is_line_feed}
use Rattle.mb_base.specs.Rows.{Row, rows}
use Rattle.mb_problem.specs.declared.instance.InstanceEdge.{InstanceEdge}
use Rattle.dimacs_read.specs.declared.line.Given.{Given}
use Rattle.dimacs_read.specs.declared.line.Header.{Header}
use Rattle.dimacs_read.specs.declared.keep.Line.{Line}
use Rattle.dimacs_read.specs.declared.reader.Draft.{Draft}
use Rattle.dimacs_read.specs.Rows.{instance_rows}
use Rattle.dimacs_read.specs.Line.{is_valued}
use Rattle.dimacs_read.specs.Plain.{BeginsWith}
use Rattle.dimacs_read.specs.Reading.{GivesLine, IsDraft, IsReadTo, header_after, values_after, edges_after, negative_after}
use Rattle.dimacs_read.proofs.StepLemmas.{turn_at, goes_on, within_more, left_more, end_count, after_lines-one}
use Rattle.dimacs_read.proofs.FieldsLemmas.{is_solution-six}

-- the lines from the k-th on begin with the first of what is left
pub line_at : (bytes : List ℕ) (k : ℕ) (rest text after : List ℕ) → drop k (instance_rows (rows bytes)) ≡ instance_rows (rows rest) → BeginsWith rest text after
    → drop k (instance_rows (rows bytes)) ≡ fields text ∷ instance_rows (rows after)
line_at bytes k rest text after left begins = turn_at (instance_rows (rows bytes)) k rest text after (take 6 (fields text)) left begins.line refl
    (is_solution-six (fields text) ∙ begins.no_solution)

pub read_more : (bounds : Bool) (bytes : List ℕ) (k : ℕ) (rest text after : List ℕ) (header : Option Header) (values : List (Option Given)) (edges : List InstanceEdge)
    (negative : Option ℕ) (found : Line) → BeginsWith rest text after → GivesLine bounds header (is_valued values) (length values) (take 6 (fields text)) (Ok found)
    → IsReadTo bounds bytes k rest header values edges negative
    → IsReadTo bounds bytes (k + 1) after (header_after header found) (values_after values found) (edges_after edges found) (negative_after negative found k)
read_more bounds bytes k rest text after header values edges negative found begins given read =
    let rs : List Row = instance_rows (rows bytes) in let more : List Row = instance_rows (rows after) in
    let at = line_at bytes k rest text after read.left begins in
    record {
      left = left_more bounds rs k (fields text) more at;
      after = begins.after_is ∙ ap (after_first is_line_feed) read.after ∙ sym (after_lines-one k bytes);
      so_far = goes_on bounds rs k (fields text) more at header values edges negative found read.so_far given;
      within = within_more bounds rs k (fields text) more at;
      value_limit = omega (arith, begins.shorter, read.value_limit);
    }

-- no line is left
pub draft_is : (bounds : Bool) (bytes : List ℕ) (draft : Draft)
    → IsReadTo bounds bytes draft.lines draft.rest.now draft.header draft.values.items draft.edges.items draft.negative → instance_rows (rows draft.rest.now) ≡ []
    → IsDraft bounds bytes draft
draft_is bounds bytes draft read none = record {
  lines = end_count (instance_rows (rows bytes)) draft.lines (read.left ∙ none) read.within;
  short = omega (arith, read.value_limit);
  so_far = read.so_far;
  rest = read.after;
}
