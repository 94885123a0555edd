use Rattle.alt_forest.proofs.Common.{ap, subst, IsGraph}
use Rattle.graph_theory.specs.Graph.{HasNoLoop}
use Rattle.mwpm_engine.specs.Solutions.{Solution}
use Rattle.mwpm_engine.proofs.engine.Engine.graph.Goals as goal

pub returns : goal.returns
returns c =
    let same = ap (λ (t : Solution). t.graph) c.self.view_is in
    record { graph = same; is_graph = subst IsGraph same c.self.invariant.shape.graph.graph; loopless = subst HasNoLoop same c.self.invariant.shape.graph.loopless }
