use Rattle.graph_theory.proofs.Common.{sym}
use Rattle.check_text.proofs.checking.check_input.Goals as goal

pub returns : goal.returns
returns c = rw (sym c.deref.ensures.value) (c.check_parts.ensures c.deref.result.now c.read-parts.ensures.reading)
