use Rattle.graph_theory.proofs.Common.{◌∙◌, ◌-◌, arith, get_or, ap, cond, holds, List, ℕ, ◌+◌, take_all}
use Rattle.std.proofs.Common.{length-set}
use Rattle.dual_check.proofs.StepLemmas.{noted-next}
use Rattle.dual_check.specs.Trees.{number_at}
use Rattle.dual_check.proofs.parents.note_parent.Goals as goal

pub loop-reference-preserved : goal.loop-reference-preserved
loop-reference-preserved c =
    let table = c.loop-reference.parents.items in
    let i = c.loop-reference.reference-index in
    let range = c.requires.in_range i 0 c.loop-reference-test.true in
    record {
      size = length-set table (get_or c.args.references.now i 0 - 1) c.args.set ∙ c.loop-reference.invariant.size;
      noted = noted-next c.args.parents.now.items table c.args.references.now i c.args.set c.loop-reference-test.true range.0 (omega (arith, range.1, c.loop-reference.invariant.size))
          c.loop-reference.invariant.noted;
    }

pub returns-clause-noted : goal.returns-clause-noted
returns-clause-noted c = λ k.
    let whole = take_all c.loop-reference.reference-index c.args.references.now c.loop-reference-test.false in
    c.loop-reference.invariant.noted k ∙ ap (λ (xs : List ℕ). cond (holds xs (k + 1)) c.args.set (number_at c.args.parents.now.items k)) whole
