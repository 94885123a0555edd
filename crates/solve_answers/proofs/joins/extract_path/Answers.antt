use Rattle.mb_problem.proofs.Common.{ends-low, ends-high, ◌<◌, ◌≤◌, ◌≤ℤ◌, ℤ, arith, subst, vertices, weight_by, graph_of, IfOk, IfOk-weaker, IsWalkWith}
use Rattle.mb_problem.specs.declared.kind.Cost.TheVariants.{Total}
use Rattle.conservative_paths.specs.Within.{IsPathWithin}
use Rattle.solve_answers.proofs.PathJoins.{joins-ends, path-feasible, path-few}
use Rattle.solve_answers.proofs.joins.extract_path.Goals as goal

pub path_in-answer-requires : goal.path_in-answer-requires
path_in-answer-requires c =
    let i = c.args.instance.now in
    let s = c.ends-s.result.0 in
    let t = c.ends-s.result.1 in
    let low : 1 ≤ s = ends-low i s t c.ends-s.ensures in
    let high : t ≤ vertices i = ends-high i s t c.ends-s.ensures in
    let order : s < t = c.ends-s.ensures.order in
    let j = c.in_ok-join.ensures in
    record {
      apart = λ same. omega (arith, order, same);
      s = (low, omega (arith, order, high));
      t = (omega (arith, low, order), high);
      join = joins-ends i s t c.in_ok-join.join.edges c.ends-s.ensures (record { ascending = j.ascending; in_range = j.in_range; join = j.join });
    }

pub returns : goal.returns
returns c =
    let i = c.args.instance.now in
    let s = c.ends-s.result.0 in
    let t = c.ends-s.result.1 in
    let es = c.in_ok-join.join.edges in
    let r = c.path_in-answer.result in
    let e = c.path_in-answer.ensures in
    let P = IsWalkWith (λ start edges. IsPathWithin (graph_of i) es s t start edges) ⊥ in
    record {
      feasible = IfOk-weaker r P _ (λ a path. (path-feasible i s t es a c.ends-s.ensures path).0) e.path;
      few_steps = IfOk-weaker r P _ (λ a path. path-few i s t es a c.requires.network path) e.path;
      chosen = IfOk-weaker r P _ (λ a path. (path-feasible i s t es a c.ends-s.ensures path).1) e.path;
      weighs = subst (λ (z : ℤ). IfOk r (λ a. weight_by Total i a ≤ℤ z)) c.in_ok-join.ensures.weighs (e.weighs c.requires.even_sets);
    }
