use Rattle.certificates.proofs.Common.{sym, ◌∙◌, false≢true}
use Rattle.cert_check.proofs.parts.is_split.Goals as goal

pub returns-then-not-has_edge : goal.returns-then-not-has_edge
returns-then-not-has_edge c = ((λ t. absurd (false≢true t)), (λ split. absurd (false≢true (sym c.if-not-has_edge.true ∙ c.has_edge.ensures.1 split.0))))

pub returns-then-not-has_edge-2 : goal.returns-then-not-has_edge-2
returns-then-not-has_edge-2 c = ((λ t. absurd (false≢true t)), (λ split. absurd (false≢true (sym c.if-not-has_edge-2.true ∙ c.has_edge-2.ensures.1 split.1))))

pub returns : goal.returns
returns c = ((λ t. (c.has_edge.ensures.0 c.if-not-has_edge.false, c.has_edge-2.ensures.0 c.if-not-has_edge-2.false, c.leaves_none.ensures.0 t)), (λ split. c.leaves_none.ensures.1 split.2))
