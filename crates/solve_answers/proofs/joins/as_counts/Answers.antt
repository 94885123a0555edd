use Rattle.certificates.proofs.Common.{◌≡◌, ◌≤◌, length, ap, ◌∙◌, arith, weight, Counts, graph_of, times_each, weight_of_list}
use Rattle.join_check.proofs.Listed.{few-edges, times-listed}
use Rattle.solve_answers.proofs.joins.as_counts.Goals as goal

pub count_listed-requires-clause-size_limit : goal.count_listed-requires-clause-size_limit
count_listed-requires-clause-size_limit c =
    let i = c.args.instance.now in
    let few = few-edges i c.args.join.now.edges c.requires.ascending c.requires.in_range in
    let most : length i.edges ≤ 65536 = c.requires.network.few_edges in
    let same : length c.as_slice.result.now ≡ length c.args.join.now.edges = ap length c.as_slice.ensures in
    omega (arith, few, most, same)

pub returns : goal.returns
returns c =
    let i = c.args.instance.now in
    let es = c.args.join.now.edges in
    let is : c.from_vec.result ≡ times_each (graph_of i) es = c.from_vec.ensures ∙ (c.in_ok-counts.ensures ∙ ap (times_each (graph_of i)) c.as_slice.ensures) in
    record {
      counts = ap Counts (is ∙ times-listed i es c.requires.ascending c.requires.in_range);
      weighs = ap (weight (graph_of i)) is ∙ weight_of_list (graph_of i) es c.requires.in_range;
    }
