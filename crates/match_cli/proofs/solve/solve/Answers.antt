use Rattle.match_cli.proofs.solve.solve.Goals as goal

pub returns-clause-answer : goal.returns-clause-answer
returns-clause-answer g c = c.solve_read.ensures.answer c.args.bytes.now c.read-reading.ensures.reading

pub returns-clause-counted : goal.returns-clause-counted
returns-clause-counted g c = c.solve_read.ensures.counted c.args.bytes.now c.read-reading.ensures.reading
