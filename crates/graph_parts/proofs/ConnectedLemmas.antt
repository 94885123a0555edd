-- Lemmas on graphs whose edges lie in one component.
use Rattle.graph_theory.proofs.Common.{◌≡◌, ◌↔◌, ℕ, ◌<◌, true, List, [], length, Bool, Multigraph, IsGraph, edge_at, AreTogether, together-sym, together-trans}
use Rattle.graph_parts.specs.Marks.{is_marked}
use Rattle.graph_parts.specs.Connected.{HasConnectedEdges}

-- as they do where there are none
-- where the component of the first edge is marked, all edges are marked or not all lie in one component
pub connected-marks : (g : Multigraph) (marks : List Bool) → IsGraph g → 0 < length g.edges → ((w : ℕ) → (is_marked marks w ≡ true) ↔ AreTogether g [] (edge_at g 0).u w)
    → ((k : ℕ) → k < length g.edges → is_marked marks (edge_at g k).u ≡ true) ↔ HasConnectedEdges g
connected-marks g marks ok some exact = (
  λ all j k a b.
      let first = (edge_at g 0).u in
      let u = (edge_at g j).u in
      let v = (edge_at g k).u in
      together-trans g [] u first v (together-sym g [] first u ok.ends ((exact u).0 (all j a))) ((exact v).0 (all k b)),
  λ joined k b. (exact (edge_at g k).u).1 (joined 0 k some b),
)
