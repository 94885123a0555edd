use Rattle.mb_problem.proofs.Common.{refl}
use Rattle.doc_format.specs.declared.part.CountLine.{CountLine}
use Rattle.doc_format.specs.declared.part.Part.TheVariants.{Count}
use Rattle.doc_format.specs.Spelling.{parts_text}
use Rattle.doc_format.proofs.Spelled.{parts-adds, spelled-more}
use Rattle.doc_format.proofs.line_writing.put_counts.Goals as goal

pub loop-x-preserved : goal.loop-x-preserved
loop-x-preserved c =
    let line = λ (l : CountLine). Count l in
    spelled-more parts_text line c.args.counts.now c.loop-x.x-index _ _ _ _ _ parts-adds c.loop-x-test.true c.loop-x.invariant refl c.in_ok-put_count.ensures
