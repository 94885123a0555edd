use Rattle.graph_theory.proofs.Common.{arith, false_from_ne_true}
use Rattle.dual_check.proofs.overlap.lesser_place.Goals as goal

pub returns-then-place-least-clause-none : goal.returns-then-place-least-clause-none
returns-then-place-least-clause-none c = λ low j b less one. false_from_ne_true _ (λ two. let least = c.in-Some.ensures.least j b one two in omega (arith, least, less))

pub returns-else-place-least-clause-none : goal.returns-else-place-least-clause-none
returns-else-place-least-clause-none c = λ low j b less one.
    false_from_ne_true _ (λ two. let least = c.in-Some.ensures.least j b one two in omega (arith, least, less, c.if-place-least.false))
