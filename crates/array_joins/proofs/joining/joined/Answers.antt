use Rattle.mb_problem.proofs.Common.{◌≡◌, ℕ, ◌≤◌, List, length, ap, arith, odd_at}
use Rattle.mb_problem.specs.declared.answer.Parity.TheVariants.{Values}
use Rattle.array_joins.proofs.Leasts.{join-few}
use Rattle.array_joins.proofs.joining.joined.Goals as goal

pub weight_of-weight-requires-clause-size_limit : goal.weight_of-weight-requires-clause-size_limit
weight_of-weight-requires-clause-size_limit c =
    let i = c.args.instance.now in
    let edges : List ℕ = c.args.join.edges in
    let few : length edges ≤ length i.edges = join-few i (odd_at Values i) edges c.requires.least.join in
    let most : length i.edges ≤ 65536 = c.edges.ensures.network.few_edges in
    let same : length c.as_slice.result.now ≡ length edges = ap length c.as_slice.ensures in
    omega (arith, few, most, same)
