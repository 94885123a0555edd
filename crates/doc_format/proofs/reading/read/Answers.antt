use Rattle.graph_theory.proofs.Common.{◌≡◌, ◌∷◌, [], refl, ap, arith}
use Rattle.mb_base.specs.Text.{fields}
use Rattle.mb_base.specs.Rows.{rows}
use Rattle.doc_format.proofs.SoFar.{IsRead}
use Rattle.doc_format.proofs.Lines.{rows_more, opened, read_at, read_more, refused_by, read_whole}
use Rattle.doc_format.proofs.reading.read.Goals as goal

pub lines-init : goal.lines-init
lines-init c = record {
  is_read = opened c.args.line (rows c.args.bytes.now)
      (rows c.in-Ok.opening.1.now) c.in-Ok.opening.0 c.new-draft.result.document c.in-Ok.ensures.opening c.new-draft.ensures.head c.new-draft.ensures.parts;
  last = c.new-draft.ensures.last;
  size_limit = omega (arith, c.in-Ok.ensures.size_limit);
}

pub returns-in-Err-take : goal.returns-in-Err-take
returns-in-Err-take c =
    let rs = rows c.args.bytes.now in
    let row = fields c.in-Some.text.now in
    let left = rows c.in-Some.after.now in
    let at = rows_more c.lines.rest.now c.in-Some.text.now c.in-Some.after.now c.in-Some.ensures.line in
    let is_read : IsRead c.args.line rs c.lines.number (row ∷ left) c.lines.draft.document =
    read_at c.args.line rs c.lines.number (rows c.lines.rest.now) (row ∷ left) c.lines.draft.document at c.lines.invariant.is_read in
    refused_by c.args.line rs c.lines.number row left c.lines.draft.document c.take.new.self.document c.in-Err-take.error is_read c.in-Err-take.ensures.taken

pub lines-preserved : goal.lines-preserved
lines-preserved c =
    let rs = rows c.args.bytes.now in
    let row = fields c.in-Some.text.now in
    let left = rows c.in-Some.after.now in
    let at = rows_more c.lines.rest.now c.in-Some.text.now c.in-Some.after.now c.in-Some.ensures.line in
    let is_read : IsRead c.args.line rs c.lines.number (row ∷ left) c.lines.draft.document =
    read_at c.args.line rs c.lines.number (rows c.lines.rest.now) (row ∷ left) c.lines.draft.document at c.lines.invariant.is_read in
    record {
      is_read = read_more c.args.line rs c.lines.number row left c.lines.draft.document c.take.new.self.document is_read c.in_default-take.ensures.taken.0 c.in_default-take.ensures.taken.1;
      last = c.in_default-take.ensures.last;
      size_limit = omega (arith, c.in-Some.ensures.rest, c.lines.invariant.size_limit);
    }

pub returns : goal.returns
returns c =
    let rs = rows c.args.bytes.now in
    let at_end : rows c.lines.rest.now ≡ [] = ap rows (c.in_default.ensures.none.0 refl) in
    read_whole c.args.line rs c.lines.number c.lines.draft.document (read_at c.args.line rs c.lines.number (rows c.lines.rest.now) [] c.lines.draft.document at_end c.lines.invariant.is_read)
