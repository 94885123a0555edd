use Rattle.graph_theory.proofs.Common.{w128, to_z-of_z}
use Rattle.dual_change.proofs.Due.{comes_at}
use Rattle.dual_change.proofs.find_by_queue.by_edge.Goals as goal

pub returns-in-Outer-Outer : goal.returns-in-Outer-Outer
returns-in-Outer-Outer g c =
    let e = c.between.ensures in
    let comes = comes_at _ _ _ _ (to_z-of_z w128 c.args.moment c.ranges.moment) e.comes in
    record { candidate = e.candidate; comes = comes; stale = λ q. absurd (e.not_stuck q); inspections = λ q. e.inspections; step = c.nodes_at-one.ensures.step }

pub returns-in-Outer-Out : goal.returns-in-Outer-Out
returns-in-Outer-Out g c =
    let e = c.outward.ensures in
    let comes = comes_at _ _ _ _ (to_z-of_z w128 c.args.moment c.ranges.moment) e.comes in
    record { candidate = e.candidate; comes = comes; stale = λ q. absurd (e.not_stuck q); inspections = λ q. e.inspections; step = c.nodes_at-one.ensures.step }

pub returns-in-Out-Outer : goal.returns-in-Out-Outer
returns-in-Out-Outer g c =
    let e = c.outward-in-Out-Outer.ensures in
    let comes = comes_at _ _ _ _ (to_z-of_z w128 c.args.moment c.ranges.moment) e.comes in
    record { candidate = e.candidate; comes = comes; stale = λ q. absurd (e.not_stuck q); inspections = λ q. e.inspections; step = c.nodes_at-one.ensures.step }
