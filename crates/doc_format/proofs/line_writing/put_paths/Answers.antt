use Rattle.mb_problem.proofs.Common.{◌++◌, [], ap}
use Rattle.doc_format.specs.declared.part.PathLine.{PathLine}
use Rattle.doc_format.specs.declared.part.Part.TheVariants.{Even}
use Rattle.doc_format.specs.Spelling.{row_text, part_row, parts_text}
use Rattle.doc_format.proofs.Spelled.{parts-adds, spelled-more}
use Rattle.doc_format.proofs.line_writing.put_paths.Goals as goal

pub loop-r-preserved : goal.loop-r-preserved
loop-r-preserved c =
    let line = λ (l : PathLine). Even l in
    let piece = ap (λ (line : PathLine). row_text (part_row (Even line)) ++ []) c.r-item.is in
    spelled-more parts_text line c.args.paths.now c.loop-r.r-index c.r-item.result _ _ _ _ parts-adds c.loop-r-test.true c.loop-r.invariant piece c.in_ok-put_path.ensures
