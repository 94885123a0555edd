use Rattle.mb_problem.proofs.Common.{◌≡◌, ℕ, ◌-◌, ◌≤◌, arith, ap, slice_index, sum_to, vertices, sum_to-grows}
use Rattle.gadget_base.proofs.copies.copies_of.Goals as goal

pub returns-clause-inside : goal.returns-clause-inside
returns-clause-inside c =
    let value : ℕ → ℕ = λ k. slice_index c.args.instance.now.values k in
    let v = c.args.v in
    let number : c.number.result ≡ v = c.number.ensures in
    let low : 1 ≤ v = c.requires.low in
    let high : v ≤ vertices c.args.instance.now = c.requires.high in
    let start : slice_index c.args.starts.now (c.number.result - 1) ≡ sum_to value (c.number.result - 1) = c.requires.starts.each (c.number.result - 1) (omega arith) in
    let here : sum_to value (c.number.result - 1) ≡ sum_to value (v - 1) = ap (λ x. sum_to value (x - 1)) number in
    let many : c.value.result ≡ value (v - 1) = c.value.ensures.value in
    omega (arith, start, here, many, sum_to-grows value (v - 1) (vertices c.args.instance.now) (omega arith))
