-- How large an instance is, and its certificate graph.
use Rattle.std.specs.Prelude.{◌≡◌, length}
use Rattle.graph_theory.specs.Limits.{IsWithinLimits}
use Rattle.mb_problem.specs.declared.kind.Kind.{Kind}
use Rattle.mb_problem.specs.Network.{Network, vertices}
use Rattle.mb_problem.specs.Ready.{HasNeededWeights}
use Rattle.mb_problem.specs.Size.{size_of}
use Rattle.gadget_base.specs.Certified.{gadget_graph}
use Rattle.cert_check.specs.declared.extent.Sizes.{Sizes}

-- What judging asks of an instance: that the certificate graph is within the limits, and that no
-- weight is negative if the kind wants that.
pub record MayBeJudged (kind : Kind) (i : Network) : Type 0 where
  pub limits : IsWithinLimits (size_of kind i)
  pub weights : HasNeededWeights kind i

pub record IsExtent (kind : Kind) (i : Network) (extent : Sizes) : Type 0 where
  pub vertices : extent.vertices ≡ vertices i
  pub edges : extent.edges ≡ length i.edges
  pub certified : extent.certified ≡ (gadget_graph kind i).vertices
