use Rattle.certificates.proofs.Common.{IfOk, subst, MemberLine}
use Rattle.solve_answers.specs.Excluding.{StatesLine}
use Rattle.solve_answers.proofs.obstruction.infeasible.Goals as goal

pub returns : goal.returns
returns c = subst (λ (u : MemberLine). IfOk c.infeasible_by.result (StatesLine c.args.kind u)) c.in_ok-line.ensures.line c.infeasible_by.ensures
