use Rattle.graph_theory.proofs.Common.{arith, w128, to_z-of_z}
use Rattle.dual_change.proofs.Due.{comes_at}
use Rattle.dual_change.proofs.find_by_keys.by_node.Goals as goal

pub returns : goal.returns
returns g c =
    let e = c.by_vertex.ensures in
    let comes = comes_at _ _ _ _ (to_z-of_z w128 c.args.moment c.ranges.moment) e.comes in
    record { candidate = e.candidate; comes = comes; vertex_keys = e.vertex_keys; left = e.left; count = e.count; look = e.look }

pub returns-then-number-vertex_count : goal.returns-then-number-vertex_count
returns-then-number-vertex_count g c =
    let e = c.by_inner.ensures in
    record {
      candidate = e.candidate;
      comes = e.comes c.args.moment c.requires.has;
      vertex_keys = e.vertex_keys;
      left = e.left;
      count = omega (arith, e.stale, e.inspections);
      look = omega (arith, e.inspections);
    }
