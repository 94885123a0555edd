-- What certificates rest on: what is proved is true.
use Rattle.graph_theory.specs.Graph.{IsGraph}
use Rattle.mb_problem.specs.declared.kind.Kind.{Kind}
use Rattle.mb_problem.specs.Network.{Network, IsNetwork}
use Rattle.gadget_base.specs.Certified.{gadget_graph, ReachesAll}
use Rattle.doc_format.specs.declared.document.Document.{Document}
use Rattle.certificates.specs.Proved.{IsProved, StatesTruth}

-- What a document proves is true of the instance, if each feasible answer has its perfect matching
-- in the certificate graph: by weak duality, by barriers, by even paths, and by sets that no edge
-- leaves.
abbrev pub ProvedIsTrue : Type 0
ProvedIsTrue = (kind : Kind) (i : Network) (d : Document) → IsNetwork i
    → IsGraph (gadget_graph kind i) → ReachesAll kind i → IsProved kind i d → StatesTruth kind i d
