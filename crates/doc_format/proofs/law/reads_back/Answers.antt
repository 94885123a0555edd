use Rattle.doc_format.proofs.WholeBack.{reads_back}
use Rattle.doc_format.proofs.law.reads_back.Goals as goal

pub returns : goal.returns
returns c = reads_back
