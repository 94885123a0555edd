use Rattle.mb_problem.proofs.Common.{◌≡◌, ℕ, List, length, Some, sym, ◌∙◌, arith, cond-true, cond-false, ne_eqb}
use Rattle.array_joins.specs.Sets.{wrong_start}
use Rattle.array_joins.proofs.Firsts.{first-found}
use Rattle.array_joins.proofs.sets.starts_fault.Goals as goal

pub returns-then-is_wrong-clause-fault : goal.returns-then-is_wrong-clause-fault
returns-then-is_wrong-clause-fault c =
    let s : List ℕ = c.args.starts.now in
    let k = c.loop-k.k in
    let here : wrong_start s c.args.count k ≡ Some k = cond-true _ _ _ (sym c.is_wrong.ensures ∙ c.if-is_wrong.true) in
    sym (cond-false _ _ _ (ne_eqb (length s) 0 (λ e. omega (arith, e, c.loop-k-test.true)))
    ∙ first-found (wrong_start s c.args.count) (length s) k k c.loop-k.invariant here c.loop-k-test.true)
