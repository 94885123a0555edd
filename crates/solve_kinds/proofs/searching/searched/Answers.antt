use Rattle.mb_problem.proofs.Common.{◌≡◌, ◌∙◌, ◌≤◌, ◌+◌, ◌*◌, sym, subst, arith, Multigraph, GRAPH_VERTEX_LIMIT, size_of, certified_size, certified-no-larger}
use Rattle.mwpm_engine.specs.Solutions.{HasPerfect, most_steps, size_of_graph}
use Rattle.solve_kinds.proofs.SearchedGraphs.{searched-perfect}
use Rattle.solve_kinds.proofs.Searches.{graph-limits, graph-steps}
use Rattle.solve_kinds.proofs.searching.searched.Goals as goal

pub of-requires : goal.of-requires
of-requires g c =
    let kind = c.args.kind in
    let i = c.args.instance.now in
    let e = c.in_ok-graph.ensures in
    record { limits = graph-limits (certified_size kind i) (size_of kind i) c.in_ok-graph.graph e.size (certified-no-larger kind i) c.requires.limits; loopless = e.loopless }

pub settled-document-requires : goal.settled-document-requires
settled-document-requires g c =
    let kind = c.args.kind in
    let i = c.args.instance.now in
    let e = c.in_ok-graph.ensures in
    let limits = graph-limits (certified_size kind i) (size_of kind i) c.in_ok-graph.graph e.size (certified-no-larger kind i) c.requires.limits in
    let same : c.in_ok-engine.engine.graph ≡ c.in_ok-graph.graph = c.in_ok-engine.ensures.graph in
    record {
      network = e.network;
      not_run = c.in_ok-engine.ensures.not_run;
      duals = c.requires.duals;
      well_formed = c.requires.well_formed;
      conservative = c.requires.conservative;
      size_limit = subst (λ (h : Multigraph). h.vertices ≤ GRAPH_VERTEX_LIMIT) (sym same) limits.vertices;
      certified = same ∙ e.graph;
      reached = e.reached;
      perfect = λ none. subst HasPerfect (sym (same ∙ e.graph)) (searched-perfect kind i c.requires.duals e.network e.reached c.requires.well_formed.no_part none);
    }

pub returns-clause-steps : goal.returns-clause-steps
returns-clause-steps g c =
    let kind = c.args.kind in
    let i = c.args.instance.now in
    let most = graph-steps (certified_size kind i) (size_of kind i) c.in_ok-graph.graph c.in_ok-graph.ensures.size (certified-no-larger kind i) in
    let counted = subst (λ (h : Multigraph). c.settled-document.new.steps ≤ c.args.steps.now + most_steps (size_of_graph h)) c.in_ok-engine.ensures.graph c.settled-document.ensures.steps in
    omega (arith, most, counted)

pub returns-clause-half : goal.returns-clause-half
returns-clause-half g c none =
    let kind = c.args.kind in
    let i = c.args.instance.now in
    let most = graph-steps (certified_size kind i) (size_of kind i) c.in_ok-graph.graph c.in_ok-graph.ensures.size (certified-no-larger kind i) in
    let counted = subst (λ (h : Multigraph). 2 * c.settled-document.new.steps ≤ 2 * c.args.steps.now + most_steps (size_of_graph h)) c.in_ok-engine.ensures.graph
    (c.settled-document.ensures.half none) in
    omega (arith, most, counted)
