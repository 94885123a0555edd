use Rattle.certificates.proofs.Common.{◌≡◌, false, IfOk, refl, subst, Kind, obstruction_of, MemberLine, is_never, only-bottleneck}
use Rattle.solve_answers.specs.Excluding.{StatesLine}
use Rattle.solve_kinds.proofs.barriers.unmatched.Goals as goal

pub infeasible_by-requires-clause-kind : goal.infeasible_by-requires-clause-kind
infeasible_by-requires-clause-kind c = subst (λ (k : Kind). is_never (obstruction_of k) ≡ false) (only-bottleneck c.args.kind c.requires.proof) refl

pub returns : goal.returns
returns c = subst (λ (u : MemberLine). IfOk c.infeasible_by.result (StatesLine c.args.kind u)) c.in_ok-line.ensures.line c.infeasible_by.ensures
