use Rattle.certificates.proofs.Common.{sym, ◌∙◌}
use Rattle.solve_kinds.proofs.optimal.optimal.Goals as goal

pub returns-then-is_brief : goal.returns-then-is_brief
returns-then-is_brief c = rw (sym c.is_brief.ensures.brief ∙ c.if-is_brief.true) c.answered.ensures

pub returns : goal.returns
returns c = rw (sym c.is_brief.ensures.brief ∙ c.if-is_brief.false) c.certified.ensures
