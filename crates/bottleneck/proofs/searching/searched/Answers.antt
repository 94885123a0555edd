use Rattle.graph_theory.proofs.Common.{◌∙◌, ℕ, List, sym, subst, Multigraph, IsBarrier, IsVertexSet}
use Rattle.bottleneck.proofs.searching.searched.Goals as goal

pub returns-in_ok-set-in-Barrier-clause-found : goal.returns-in_ok-set-in-Barrier-clause-found
returns-in_ok-set-in-Barrier-clause-found g c =
    let s = c.run.new.self in
    let e = c.in-Barrier.ensures in
    let P = λ (h : Multigraph) (vs : List ℕ). IsVertexSet h.vertices vs × IsBarrier h vs in
    subst (P c.args.part.now) (sym c.in_ok-set-in-Barrier.ensures) (subst (λ (h : Multigraph). P h s.barrier) (e.graph ∙ c.requires.same_graph) (e.ends.vertex_set, e.ends.excludes))
