use Rattle.graph_theory.proofs.Common.{◌≡◌, ◌∷◌, sym, ap, subst, ◌∙◌, Some, arith}
use Rattle.mb_base.specs.Text.{fields}
use Rattle.mb_base.specs.Rows.{rows}
use Rattle.doc_format.specs.Rows.{head_at}
use Rattle.doc_format.specs.Steps.{Skips}
use Rattle.doc_format.proofs.Lines.{rows_more, skips_more, no_head, skips_at}
use Rattle.doc_format.proofs.reading.open.Goals as goal

pub returns-in-Some-read_head-clause-opening : goal.returns-in-Some-read_head-clause-opening
returns-in-Some-read_head-clause-opening c =
    let rs = rows c.args.bytes.now in
    let row = fields c.in-Some.text.now in
    let left = rows c.in-Some.after.now in
    let at = rows_more c.lines.rest.now c.in-Some.text.now c.in-Some.after.now c.in-Some.ensures.line in
    let skips : Skips c.args.line rs c.lines.number (row ∷ left) = skips_at c.args.line rs c.lines.number (rows c.lines.rest.now) (row ∷ left) at c.lines.invariant.skips in
    let line = c.in-Some-read_head.ensures.line in
    let said : head_at c.lines.number row ≡ Some c.in-Some-read_head.head = ap (head_at c.lines.number) c.in-Some-first_field.ensures.1 ∙ sym c.in-Some-read_head.ensures.value in
    record {
      row = row;
      skips = subst (λ n. Skips c.args.line rs n (row ∷ left)) (sym line) skips;
      there = c.in-Some-first_field.ensures.0;
      says = ap (λ n. head_at n row) line ∙ said;
    }

pub returns-in-Some-read_head-clause-size_limit : goal.returns-in-Some-read_head-clause-size_limit
returns-in-Some-read_head-clause-size_limit c = omega (arith, c.in-Some-read_head.ensures.line, c.in-Some.ensures.rest, c.lines.invariant.size_limit)

pub returns-in-None-clause-opening : goal.returns-in-None-clause-opening
returns-in-None-clause-opening c =
    let rs = rows c.args.bytes.now in
    let row = fields c.in-Some.text.now in
    let left = rows c.in-Some.after.now in
    let at = rows_more c.lines.rest.now c.in-Some.text.now c.in-Some.after.now c.in-Some.ensures.line in
    let skips : Skips c.args.line rs c.lines.number (row ∷ left) = skips_at c.args.line rs c.lines.number (rows c.lines.rest.now) (row ∷ left) at c.lines.invariant.skips in
    no_head c.args.line rs c.lines.number row left skips c.in-Some-first_field.ensures.0 (ap (head_at c.lines.number) c.in-Some-first_field.ensures.1 ∙ sym c.in-None.ensures.value)

pub lines-preserved : goal.lines-preserved
lines-preserved c =
    let rs = rows c.args.bytes.now in
    let row = fields c.in-Some.text.now in
    let left = rows c.in-Some.after.now in
    let at = rows_more c.lines.rest.now c.in-Some.text.now c.in-Some.after.now c.in-Some.ensures.line in
    record {
      skips = skips_more c.args.line rs c.lines.number row left
          (skips_at c.args.line rs c.lines.number (rows c.lines.rest.now) (row ∷ left) at c.lines.invariant.skips) c.in_default-first_field.ensures;
      size_limit = omega (arith, c.in-Some.ensures.rest, c.lines.invariant.size_limit);
    }
