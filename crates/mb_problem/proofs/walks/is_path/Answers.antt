use Rattle.graph_theory.proofs.Common.{◌<◌, ◌≤◌, arith}
use Rattle.mb_problem.specs.Network.{vertices}
use Rattle.mb_problem.specs.Feasible.{AreEnds}
use Rattle.mb_problem.proofs.EndLemmas.{ends-low, ends-high}
use Rattle.mb_problem.proofs.walks.is_path.Goals as goal

pub vertices_differ-requires-clause-low : goal.vertices_differ-requires-clause-low
vertices_differ-requires-clause-low c = ends-low c.args.instance.now c.args.start c.in-Some.finish (c.are_ends.ensures.0 c.if-not-are_ends.false)

pub vertices_differ-requires-clause-high : goal.vertices_differ-requires-clause-high
vertices_differ-requires-clause-high c =
    let i = c.args.instance.now in
    let ends : AreEnds i c.args.start c.in-Some.finish = c.are_ends.ensures.0 c.if-not-are_ends.false in
    let high : c.in-Some.finish ≤ vertices i = ends-high i c.args.start c.in-Some.finish ends in
    let order : c.args.start < c.in-Some.finish = ends.order in
    omega arith
