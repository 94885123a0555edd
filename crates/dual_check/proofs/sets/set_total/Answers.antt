use Rattle.graph_theory.proofs.Common.{◌≡◌, arith, ap, ints, get_or_read, IsNumber, given_at, no_given, int_sum_to-more}
use Rattle.graph_theory.specs.declared.odd_set.OddSet.{OddSet}
use Rattle.dual_check.proofs.sets.set_total.Goals as goal

pub loop-set-preserved : goal.loop-set-preserved
loop-set-preserved c =
    let i = c.loop-set.set-index in
    let s = c.set-item.result in
    let step = int_sum_to-more (λ j. (given_at c.args.sets.now j).dual) i in
    let here : s.dual ≡ (given_at c.args.sets.now i).dual = ap (λ (t : OddSet). t.dual) (get_or_read c.args.sets.now i s (omega arith) c.set-item.is no_given) in
    let small : IsNumber (given_at c.args.sets.now i).dual = c.requires i no_given (omega arith) in
    (omega (arith, ints), omega (arith, ints), omega (arith, ints))
