use Rattle.graph_theory.proofs.Common.{◌∙◌, ◌||◌, ap, holds, List, ℕ, take_all}
use Rattle.graph_parts.specs.Marks.{is_marked}
use Rattle.dual_check.proofs.sets.mark_references.Goals as goal

pub returns : goal.returns
returns c = λ r.
    let whole = take_all c.loop-reference.reference-index c.args.references.now c.loop-reference-test.false in
    c.loop-reference.invariant r ∙ ap (λ (xs : List ℕ). is_marked c.args.marks.now r || holds xs r) whole
