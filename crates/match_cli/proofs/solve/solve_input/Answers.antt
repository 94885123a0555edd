use Rattle.graph_theory.proofs.Common.{sym}
use Rattle.match_cli.proofs.solve.solve_input.Goals as goal

pub returns-clause-answer : goal.returns-clause-answer
returns-clause-answer g c = rw (sym c.deref.ensures.value) (c.solve_read.ensures.answer c.deref.result.now c.read-reading.ensures.reading)

pub returns-clause-counted : goal.returns-clause-counted
returns-clause-counted g c = rw (sym c.deref.ensures.value) (c.solve_read.ensures.counted c.deref.result.now c.read-reading.ensures.reading)
