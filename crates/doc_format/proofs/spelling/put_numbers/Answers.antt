use Rattle.mb_problem.proofs.Common.{◌≡◌, ◌∷◌, [], ◌++◌, ℤ, pos, get_or, ap, rules, to_z, of_z, w64, flat_map, signed_decimal}
use Rattle.doc_format.specs.Spelling.{after_space}
use Rattle.doc_format.proofs.Spelled.{spaced-adds, spelled-more}
use Rattle.doc_format.proofs.spelling.put_numbers.Goals as goal

pub loop-number-preserved : goal.loop-number-preserved
loop-number-preserved c =
    let xs = c.args.numbers.now in
    let k = c.loop-number.number-index in
    let same : to_z w64 (of_z w64 (get_or xs k (pos 0))) ≡ get_or xs k (pos 0) = search rules in
    let piece = ap (λ (z : ℤ). 32 ∷ signed_decimal z ++ []) same in
    spelled-more (flat_map after_space) signed_decimal xs k (pos 0) _ _ _ _ spaced-adds c.loop-number-test.true c.loop-number.invariant piece c.in_ok-put_number.ensures
