use Rattle.mb_problem.proofs.Common.{◌++◌, [], ap}
use Rattle.doc_format.specs.declared.part.SetLine.{SetLine}
use Rattle.doc_format.specs.declared.part.Part.TheVariants.{Set}
use Rattle.doc_format.specs.Spelling.{row_text, part_row, parts_text}
use Rattle.doc_format.proofs.Spelled.{parts-adds, spelled-more}
use Rattle.doc_format.proofs.line_writing.put_sets.Goals as goal

pub loop-z-preserved : goal.loop-z-preserved
loop-z-preserved c =
    let line = λ (l : SetLine). Set l in
    let piece = ap (λ (line : SetLine). row_text (part_row (Set line)) ++ []) c.z-item.is in
    spelled-more parts_text line c.args.sets.now c.loop-z.z-index c.z-item.result _ _ _ _ parts-adds c.loop-z-test.true c.loop-z.invariant piece c.in_ok-put_set.ensures
