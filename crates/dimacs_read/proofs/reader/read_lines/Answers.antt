use Rattle.graph_theory.proofs.Common.{List, Option, length, ◌≡◌, ◌∷◌, drop, take, Ok, Err, arith, ap, subst, refl, nil_from_length, nat_tests}
use Rattle.mb_base.specs.Text.{fields}
use Rattle.mb_base.specs.Rows.{rows}
use Rattle.dimacs_read.specs.Rows.{instance_rows}
use Rattle.dimacs_read.specs.declared.line.Given.{Given}
use Rattle.dimacs_read.specs.Line.{is_valued}
use Rattle.dimacs_read.specs.Reading.{GivesLine, IsReadTo}
use Rattle.dimacs_read.proofs.StepLemmas.{stops}
use Rattle.dimacs_read.proofs.ReadSteps.{draft_is, line_at, read_more}
use Rattle.dimacs_read.proofs.reader.read_lines.Goals.{In_ok-rest, else-lines-test, then-lines-test+in_ok-rest+in-Ended}
use Rattle.dimacs_read.proofs.reader.read_lines.Goals as goal

-- the lines that are written plainly have been read
plainly : (c : In_ok-rest)
    → IsReadTo c.args.bounds c.args.bytes.now c.keep_plain.new.line c.in_ok-rest.rest.now c.lines.header c.lines.values.items c.keep_plain.new.edges.items c.keep_plain.new.negative
plainly c = c.in_ok-rest.ensures.reads c.args.bounds c.args.bytes.now c.lines.values.items c.lines.invariant

pub overflow_add-result : goal.overflow_add-result
overflow_add-result c =
    let read = plainly (goal.at.overflow_add-result c).In_ok-rest in let begins = c.in-Broken.ensures.2 in omega (arith, read.value_limit, begins.shorter)

pub overflow_add-line : goal.overflow_add-line
overflow_add-line c =
    let read = plainly (goal.at.overflow_add-line c).In_ok-rest in let begins = c.in-Found.ensures.1 in omega (arith, read.value_limit, begins.shorter)

pub returns-in-Broken : goal.returns-in-Broken
returns-in-Broken c =
    let read = plainly (goal.at.returns-in-Broken c).In_ok-rest in let rs = instance_rows (rows c.args.bytes.now) in let line = c.keep_plain.new.line in
    let text = c.in-Broken.ensures.0 in let after = c.in-Broken.ensures.1 in
    let at : drop line rs ≡ fields text ∷ instance_rows (rows after) = line_at c.args.bytes.now line c.in_ok-rest.rest.now text after read.left c.in-Broken.ensures.2 in
    let given : GivesLine c.args.bounds c.lines.header (is_valued c.lines.values.items) (length c.lines.values.items) (take 6 (fields text)) (Err c.in-Broken.rule) =
    subst (λ (vs : List (Option Given)). GivesLine c.args.bounds c.lines.header (is_valued vs) (length vs) (take 6 (fields text)) (Err c.in-Broken.rule))
    c.deref.ensures.value c.in-Broken.ensures.3 in (
      line,
      refl,
      stops c.args.bounds rs line (fields text) (instance_rows (rows after)) at c.lines.header c.lines.values.items c.keep_plain.new.edges.items c.keep_plain.new.negative
          c.in-Broken.rule read.so_far given,
    )

pub lines-preserved : goal.lines-preserved
lines-preserved c =
    let read = plainly (goal.at.lines-preserved c).In_ok-rest in let text = c.in-Found.ensures.0 in
    let given : GivesLine c.args.bounds c.lines.header (is_valued c.lines.values.items) (length c.lines.values.items) (take 6 (fields text)) (Ok c.in-Found.found) =
    subst (λ (vs : List (Option Given)). GivesLine c.args.bounds c.lines.header (is_valued vs) (length vs) (take 6 (fields text)) (Ok c.in-Found.found)) c.deref.ensures.value
    c.in-Found.ensures.2 in
    rw (c.in_ok-keep_line-in-Found.ensures.header, c.in_ok-keep_line-in-Found.ensures.values, c.in_ok-keep_line-in-Found.ensures.edges, c.first_negative-negative.ensures)
    (read_more c.args.bounds c.args.bytes.now c.keep_plain.new.line c.in_ok-rest.rest.now text c.in-Found.after.now c.lines.header c.lines.values.items c.keep_plain.new.edges.items
    c.keep_plain.new.negative c.in-Found.found c.in-Found.ensures.1 given read)

pub returns : goal.returns
returns c = elim c.lines-test.branch [
  | else-lines-test w ↦
      let none : length c.lines.rest.now ≡ 0 = grind (arith, nat_tests) in
      rw (w.edges-is, w.negative-is, w.rest-is, w.line-is)
      (draft_is c.args.bounds c.args.bytes.now _ c.lines.invariant (ap (λ b. instance_rows (rows b)) (nil_from_length c.lines.rest.now none)))
  | then-lines-test+in_ok-rest+in-Ended w ↦
      rw (w.edges-is, w.negative-is, w.rest-is, w.line-is)
      (draft_is c.args.bounds c.args.bytes.now _ (w.in_ok-rest.ensures.reads c.args.bounds c.args.bytes.now c.lines.values.items c.lines.invariant) w.in-Ended.ensures)
]
