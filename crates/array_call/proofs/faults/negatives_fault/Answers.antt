use Rattle.graph_theory.proofs.Common.{ap, sym, ◌∙◌, Some}
use Rattle.array_call.specs.declared.rule.ArrayFault.{ArrayFault}
use Rattle.array_call.specs.Arrays.{Arrays, arrays_of, edge_count}
use Rattle.array_call.specs.Faults.{negative_fault}
use Rattle.array_call.proofs.Firsts.{none-more, first-found}
use Rattle.array_call.proofs.faults.negatives_fault.Goals as goal

pub returns-in-Some : goal.returns-in-Some
returns-in-Some c =
    let a : Arrays = arrays_of c.args.arrays.now in
    let here = sym c.negative_fault.ensures ∙ c.in-Some.is in
    ap (λ (f : ArrayFault). Some f) c.fault.ensures ∙ sym (first-found (negative_fault a) (edge_count a) c.loop-k.k c.in-Some.rule c.loop-k.invariant here c.loop-k-test.true)

pub loop-k-preserved : goal.loop-k-preserved
loop-k-preserved c = none-more (negative_fault (arrays_of c.args.arrays.now)) c.loop-k.k c.loop-k.invariant (sym c.negative_fault.ensures ∙ c.in_default.is)
