use Rattle.certificates.proofs.Common.{◌≡◌, ◌≤◌, sym, ◌∙◌, subst, IfOk-weaker, Multigraph, IsGraph, GRAPH_VERTEX_LIMIT, IsBarrier, IsVertexSet}
use Rattle.certificates.proofs.Common.{obstruction_of}
use Rattle.graph_theory.specs.Graph.{HasNoLoop}
use Rattle.solve_kinds.proofs.Presenting.{Solves}
use Rattle.solve_kinds.proofs.Settling.{settles-for, settles-presented}
use Rattle.solve_answers.proofs.SettlingSets.{bare-set}
use Rattle.solve_answers.proofs.PartDocuments.{never-no, settles-barred}
use Rattle.solve_answers.specs.Excluding.{StatesSet}
use Rattle.solve_kinds.specs.Presented.{PresentsFor}
use Rattle.solve_answers.specs.Details.{is_brief}
use Rattle.solve_answers.specs.Settled.{SettlesFor}
use Rattle.solve_kinds.proofs.searching.decided.Goals as goal

pub optimal-requires : goal.optimal-requires
optimal-requires g c = record {
  network = c.requires.network;
  duals = c.requires.duals;
  well_formed = c.requires.well_formed;
  matched = c.in-Matched.ensures.outcome;
  same_graph = sym c.graph.ensures.graph;
  solved = c.in-Matched.ensures.ends;
  is_graph = subst IsGraph (sym c.graph.ensures.graph) c.graph.ensures.is_graph;
  loopless = subst HasNoLoop (sym c.graph.ensures.graph) c.graph.ensures.loopless;
  certified = c.graph.ensures.graph ∙ (c.in-Matched.ensures.graph ∙ c.requires.certified);
  few_vertices = subst (λ (h : Multigraph). h.vertices ≤ GRAPH_VERTEX_LIMIT) (sym (c.graph.ensures.graph ∙ c.in-Matched.ensures.graph)) c.requires.size_limit;
  reached = c.requires.reached;
}

pub returns-in-Matched : goal.returns-in-Matched
returns-in-Matched g c =
    let kind = c.args.kind in
    let i = c.args.instance.now in
    let s = c.solve.new.self in
    let detail = c.args.detail in
    let here : s.graph ≡ c.args.engine.now.graph = c.in-Matched.ensures.graph in
    let few : s.graph.vertices ≤ GRAPH_VERTEX_LIMIT = subst (λ (h : Multigraph). h.vertices ≤ GRAPH_VERTEX_LIMIT) (sym here) c.requires.size_limit in
    let of : Solves kind i s =
    record {
      duals = c.requires.duals;
      network = c.requires.network;
      graph = here ∙ c.requires.certified;
      is_graph = subst IsGraph (here ∙ c.requires.certified) c.graph.ensures.is_graph;
      reached = c.requires.reached;
      solved = c.in-Matched.ensures.ends;
    } in
    record {
      settled = IfOk-weaker c.optimal.result (PresentsFor (is_brief detail) kind i s) (SettlesFor detail kind i)
          (λ d p. settles-presented detail kind i s d few c.requires.conservative of p) c.optimal.ensures;
      steps = c.in-Matched.ensures.steps;
    }

pub barred-requires : goal.barred-requires
barred-requires g c =
    let kind = c.args.kind in
    let s = c.solve.new.self in
    record {
      barrier = c.in-Barrier.ensures.outcome;
      same_graph = sym c.graph-in-Barrier.ensures.graph;
      set = subst (λ (h : Multigraph). IsVertexSet h.vertices s.barrier) (sym c.graph-in-Barrier.ensures.graph) c.in-Barrier.ensures.ends.vertex_set;
      kind = never-no (obstruction_of kind) c.requires.barrier;
    }

pub returns-in-Barrier : goal.returns-in-Barrier
returns-in-Barrier g c =
    let kind = c.args.kind in
    let i = c.args.instance.now in
    let s = c.solve.new.self in
    let h : Multigraph = c.args.engine.now.graph in
    let r = c.requires in
    let here : s.graph ≡ h = c.in-Barrier.ensures.graph in
    let set : IsVertexSet h.vertices s.barrier = subst (λ (k : Multigraph). IsVertexSet k.vertices s.barrier) here c.in-Barrier.ensures.ends.vertex_set in
    let barrier : IsBarrier h s.barrier = subst (λ (k : Multigraph). IsBarrier k s.barrier) here c.in-Barrier.ensures.ends.excludes in
    record {
      settled = IfOk-weaker c.barred.result (StatesSet kind s.barrier) (SettlesFor c.args.detail kind i)
          (λ d p. settles-for c.args.detail kind i d (
            settles-barred kind i h s.barrier d r.certified (subst IsGraph here c.graph-in-Barrier.ensures.is_graph) r.size_limit r.reached r.barrier r.network r.conservative set barrier p,
            bare-set kind s.barrier d p,
          )) c.barred.ensures;
      steps = c.in-Barrier.ensures.steps;
    }
