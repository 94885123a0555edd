use Rattle.graph_theory.proofs.Common.{false, inl, inr, cases_lt, get_or_past, arith}
use Rattle.graph_parts.proofs.marks.first_marked.Goals as goal

pub returns : goal.returns
returns c = λ v. elim (cases_lt v c.loop-number.number) [ inl before ↦ c.loop-number.invariant v before | inr past ↦ get_or_past c.args.marks.now v false (omega (arith, past)) ]
