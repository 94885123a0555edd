use Rattle.mb_problem.proofs.Common.{refl}
use Rattle.doc_format.specs.declared.part.DualLine.{DualLine}
use Rattle.doc_format.specs.declared.part.Part.TheVariants.{Dual}
use Rattle.doc_format.specs.Spelling.{parts_text}
use Rattle.doc_format.proofs.Spelled.{parts-adds, spelled-more}
use Rattle.doc_format.proofs.line_writing.put_duals.Goals as goal

pub loop-y-preserved : goal.loop-y-preserved
loop-y-preserved c =
    let line = λ (l : DualLine). Dual l in
    spelled-more parts_text line c.args.duals.now c.loop-y.y-index _ _ _ _ _ parts-adds c.loop-y-test.true c.loop-y.invariant refl c.in_ok-put_dual.ensures
