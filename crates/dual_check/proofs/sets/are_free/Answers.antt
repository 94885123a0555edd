use Rattle.graph_theory.proofs.Common.{◌∙◌, ap, sym, refl, holds, holds_at, get_or, false≢true, List, ℕ, take_all}
use Rattle.dual_check.proofs.sets.are_free.Goals as goal

pub returns : goal.returns
returns c =
    let whole = take_all c.loop-reference.reference-index c.args.references.now c.loop-reference-test.false in
    ((λ t r h. c.loop-reference.invariant r (ap (λ (xs : List ℕ). holds xs r) whole ∙ h)), (λ free. refl))

pub returns-then-marks-reference : goal.returns-then-marks-reference
returns-then-marks-reference c =
    let refs = c.args.references.now in
    let i = c.loop-reference.reference-index in
    ((λ t. absurd (false≢true t)), (λ free. absurd (false≢true (sym (free (get_or refs i 0) (holds_at refs i 0 c.loop-reference-test.true)) ∙ c.if-marks-reference.true))))
