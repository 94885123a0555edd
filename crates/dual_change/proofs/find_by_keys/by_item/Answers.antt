use Rattle.alt_forest.proofs.Common.{w128}
use Rattle.graph_theory.proofs.Common.{to_z-of_z}
use Rattle.dual_change.proofs.Due.{comes_at}
use Rattle.dual_change.proofs.find_by_keys.by_item.Goals as goal

pub returns-in-Blossom : goal.returns-in-Blossom
returns-in-Blossom g c =
    let e = c.by_node.ensures in
    let comes = comes_at _ _ _ _ (to_z-of_z w128 c.args.moment c.ranges.moment) e.comes in
    record { candidate = e.candidate; comes = comes; vertex_keys = e.vertex_keys; left = e.left; count = e.count; look = e.look }
