use Rattle.mb_problem.proofs.Common.{◌≡◌, ◌+◌, ℕ, List, rules, map, ap, ◌∙◌, weight, graph_of}
use Rattle.brute_force.proofs.tours.least_tour_weight.Goals as goal

pub returns : goal.returns
returns c =
    let g = graph_of c.args.instance.now in
    let uses : c.in_ok-uses.uses ≡ map (λ n. n + 1) c.in_ok-join.join = c.in_ok-uses.ensures ∙ ap (λ (counts : List ℕ). map (λ n. n + 1) counts) c.as_slice.ensures in
    let is : c.weight.result ≡ weight g (map (λ n. n + 1) c.in_ok-join.join) = c.weight.ensures ∙ ap (λ (counts : List ℕ). weight g counts) uses in
    record {
      join = c.in_ok-join.join;
      least = c.in_ok-join.ensures;
      weighs = search (rules, is);
    }
