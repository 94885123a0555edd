use Rattle.mb_problem.proofs.Common.{◌≤◌, subst, holds_all, Multigraph}
use Rattle.gallai.proofs.decomposing.path_from.Goals as goal

pub tested_path-requires-clause-low : goal.tested_path-requires-clause-low
tested_path-requires-clause-low c =
    let s = c.args.engine.now in
    (holds_all (λ v. (1 ≤ v) × (v ≤ s.graph.vertices)) s.outer c.args.vertex c.requires.ends.beside.outer_set.in_range c.requires.outer).0

pub tested_path-requires-clause-high : goal.tested_path-requires-clause-high
tested_path-requires-clause-high c =
    let s = c.args.engine.now in
    let v = c.args.vertex in
    subst (λ (g : Multigraph). v ≤ g.vertices) c.requires.graph
    (holds_all (λ v. (1 ≤ v) × (v ≤ s.graph.vertices)) s.outer v c.requires.ends.beside.outer_set.in_range c.requires.outer).1
