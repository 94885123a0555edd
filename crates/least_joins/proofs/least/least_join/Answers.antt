use Rattle.mb_problem.proofs.Common.{length, ap, ◌∙◌, arith, Multigraph}
use Rattle.least_joins.proofs.least.least_join.Goals as goal

pub of-requires : goal.of-requires
of-requires g c =
    let ports = c.in_ok-graph.ensures in
    let vertices = ap (λ (h : Multigraph). h.vertices) ports.graph ∙ ports.size.vertices in
    let edges = ap (λ (h : Multigraph). length h.edges) ports.graph ∙ ports.size.edges in
    record { limits = record { vertices = omega (arith, vertices, c.requires.limits.vertices); edges = omega (arith, edges, c.requires.limits.edges) }; loopless = ports.loopless }
