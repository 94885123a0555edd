use Rattle.mb_problem.proofs.Common.{sym, ◌∙◌, subst}
use Rattle.array_call.specs.Arrays.{arrays_of}
use Rattle.array_joins.specs.Terminals.{HasNoTerminals}
use Rattle.array_joins.proofs.Answered.{no-terminals, start-given}
use Rattle.array_joins.proofs.calling.answered_unless.Goals as goal

pub answered-requires-clause-bare : goal.answered-requires-clause-bare
answered-requires-clause-bare g c = subst HasNoTerminals (sym c.requires.same_graph) (no-terminals (arrays_of c.args.arrays.now) c.requires.loopless)

pub returns-in-Some-clause-answer : goal.returns-in-Some-clause-answer
returns-in-Some-clause-answer g c =
    start-given (arrays_of c.args.arrays.now) c.args.starts.now c.args.terminals.now c.in-Some.index c.wrong_start.result c.requires.faultless
    (sym c.starts_fault.ensures.fault ∙ c.in-Some.is) c.wrong_start.ensures.numbers c.wrong_start.ensures.status
