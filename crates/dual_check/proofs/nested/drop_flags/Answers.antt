use Rattle.graph_theory.proofs.Common.{◌∙◌, ◌-◌, false, arith, get_or, ap, holds, List, ℕ, ◌&&◌, ◌+◌, not, take_all, length, ◌==◌, ◌||◌}
use Rattle.std.proofs.Common.{length-set}
use Rattle.dual_check.proofs.LoneLemmas.{dropped-next}
use Rattle.graph_parts.specs.Marks.{is_marked}
use Rattle.dual_check.proofs.nested.drop_flags.Goals as goal

pub loop-number-preserved : goal.loop-number-preserved
loop-number-preserved c =
    let refs = c.args.references.now in
    let i = c.loop-number.number-index in
    let range = c.requires.in_range i 0 c.loop-number-test.true in
    record {
      size = length-set c.loop-number.flags (get_or refs i 0 - 1) false ∙ c.loop-number.invariant.size;
      exact = dropped-next c.args.flags.now c.loop-number.flags refs i c.loop-number-test.true range.0 (omega (arith, range.1, c.loop-number.invariant.size)) c.loop-number.invariant.exact;
    }

pub returns-clause-exact : goal.returns-clause-exact
returns-clause-exact c = λ j.
    let whole = take_all c.loop-number.number-index c.args.references.now c.loop-number-test.false in
    let kept = c.loop-number.invariant.exact j ∙ ap (λ (xs : List ℕ). is_marked c.args.flags.now j && not (holds xs (j + 1))) whole in
    c.drop_own.ensures.exact j ∙ ap (λ t. t && (not (c.args.set == j) || (length c.args.references.now == 0))) kept
