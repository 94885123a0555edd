use Rattle.graph_theory.proofs.Common.{◌≡◌, ℤ, pos, ◌+ℤ◌, ◌-ℤ◌, arith, rules, to_z, of_z, w64, quot_z, ints}
use Rattle.search_start.proofs.raising.even_room.Goals as goal

pub returns-clause-even : goal.returns-clause-even
returns-clause-even c =
    let half : ℤ = to_z w64 (of_z w64 (quot_z (to_z w64 (of_z w64 (to_z w64 (of_z w64 c.args.to) -ℤ to_z w64 (of_z w64 c.args.from)))) (pos 2))) in
    let back : to_z w64 (of_z w64 (half +ℤ half)) ≡ half +ℤ half = search rules in
    (half, omega (arith, ints, back))
