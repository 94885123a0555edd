use Rattle.graph_theory.proofs.Common.{take}
use Rattle.gadget_base.specs.Links.{with_loops}
use Rattle.mwpm_engine.specs.Solutions.{matching_of}
use Rattle.gallai.specs.Decompositions.{ArePathsFrom}
use Rattle.gallai.proofs.decomposing.paths_from.Given as goal

abbrev pub invariant-loop-vertex : goal.invariant-loop-vertex
invariant-loop-vertex l = ArePathsFrom l.instance (with_loops l.instance (matching_of l.engine.graph l.engine.mates)) (take l.vertex-index l.outer) l.paths
