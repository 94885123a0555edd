use Rattle.certificates.proofs.Common.{◌≡◌, ◌≤◌, sym, ◌∙◌, subst, IfOk-weaker, Multigraph, IsGraph, GRAPH_VERTEX_LIMIT}
use Rattle.graph_theory.specs.Graph.{HasNoLoop}
use Rattle.solve_kinds.proofs.Presenting.{Solves}
use Rattle.solve_kinds.proofs.Settling.{settles-presented, states-for}
use Rattle.solve_kinds.specs.Presented.{PresentsFor}
use Rattle.solve_answers.specs.Details.{is_brief}
use Rattle.solve_answers.specs.Settled.{SettlesFor}
use Rattle.solve_kinds.proofs.searching.assured.Goals as goal

pub optimal-requires : goal.optimal-requires
optimal-requires g c = record {
  network = c.requires.network;
  duals = c.requires.duals;
  well_formed = c.requires.well_formed;
  matched = c.solve_matched.ensures.outcome;
  same_graph = sym c.graph.ensures.graph;
  solved = c.solve_matched.ensures.ends;
  is_graph = subst IsGraph (sym c.graph.ensures.graph) c.graph.ensures.is_graph;
  loopless = subst HasNoLoop (sym c.graph.ensures.graph) c.graph.ensures.loopless;
  certified = c.graph.ensures.graph ∙ (c.solve_matched.ensures.graph ∙ c.requires.certified);
  few_vertices = subst (λ (h : Multigraph). h.vertices ≤ GRAPH_VERTEX_LIMIT) (sym (c.graph.ensures.graph ∙ c.solve_matched.ensures.graph)) c.requires.size_limit;
  reached = c.requires.reached;
}

pub returns : goal.returns
returns g c =
    let kind = c.args.kind in
    let i = c.args.instance.now in
    let s = c.solve_matched.new.self in
    let detail = c.args.detail in
    let here : s.graph ≡ c.args.engine.now.graph = c.solve_matched.ensures.graph in
    let few : s.graph.vertices ≤ GRAPH_VERTEX_LIMIT = subst (λ (h : Multigraph). h.vertices ≤ GRAPH_VERTEX_LIMIT) (sym here) c.requires.size_limit in
    let of : Solves kind i s =
    record {
      duals = c.requires.duals;
      network = c.requires.network;
      graph = here ∙ c.requires.certified;
      is_graph = subst IsGraph (here ∙ c.requires.certified) c.graph.ensures.is_graph;
      reached = c.requires.reached;
      solved = c.solve_matched.ensures.ends;
    } in
    record {
      settled = IfOk-weaker c.optimal.result (PresentsFor (is_brief detail) kind i s) (SettlesFor detail kind i)
          (λ d p. settles-presented detail kind i s d few c.requires.conservative of p) c.optimal.ensures;
      best = IfOk-weaker c.optimal.result (PresentsFor (is_brief detail) kind i s) _ (λ d p. (states-for detail kind i s d p).status) c.optimal.ensures;
      half = c.solve_matched.ensures.steps;
    }
