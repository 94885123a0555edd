use Rattle.mb_problem.proofs.Common.{◌≡◌, ◌≤◌, ap, arith, length, length-map, at_most, value_total, Multigraph}
use Rattle.gadget_base.proofs.Common.{grown-length, grown-vertices, half_graph, moved, moved_edge}
use Rattle.gadget_interval.proofs.Built.{built}
use Rattle.gadget_interval.proofs.Sizes.{half-limits, halves-fit}
use Rattle.gadget_interval.proofs.halves.halves_of.Goals as goal

pub half_of-requires : goal.half_of-requires
half_of-requires c = record { limits = half-limits c.args.instance.now c.requires.limits }

pub overflow_mul-by : goal.overflow_mul-by
overflow_mul-by c = let fit = halves-fit c.args.instance.now c.in_ok-half.half c.vertices-by.result c.in_ok-half.ensures c.vertices-by.ensures.count c.requires.limits in omega (arith, fit.0)

pub add_moved-requires : goal.add_moved-requires
add_moved-requires c =
    let fit = halves-fit c.args.instance.now c.in_ok-half.half c.vertices-by.result c.in_ok-half.ensures c.vertices-by.ensures.count c.requires.limits in
    let none = ap (λ (g : Multigraph). length g.edges) c.new-graph.ensures in
    let size = ap (λ (g : Multigraph). g.vertices) c.new-graph.ensures in
    record { vertices = omega (arith, size, c.vertices-by.ensures.count); room = omega (arith, none, fit.1) }

pub add_moved-requires-2 : goal.add_moved-requires-2
add_moved-requires-2 c =
    let half = c.in_ok-half.half in
    let fit = halves-fit c.args.instance.now half c.vertices-by.result c.in_ok-half.ensures c.vertices-by.ensures.count c.requires.limits in
    let none = ap (λ (g : Multigraph). length g.edges) c.new-graph.ensures in
    let size = ap (λ (g : Multigraph). g.vertices) c.new-graph.ensures in
    let more = grown-length c.new-graph.result c.add_moved.new.graph (moved 0 half.edges) c.in_ok-add_moved.ensures.added in
    let same = grown-vertices c.new-graph.result c.add_moved.new.graph (moved 0 half.edges) c.in_ok-add_moved.ensures.added in
    let one = length-map half.edges (moved_edge 0) in
    record { vertices = omega (arith, size, same, c.vertices-by.ensures.count); room = omega (arith, none, more, one, fit.1) }

pub add_pairs-requires : goal.add_pairs-requires
add_pairs-requires c =
    let i = c.args.instance.now in
    let half = c.in_ok-half.half in
    let by = c.vertices-by.result in
    let fit = halves-fit i half by c.in_ok-half.ensures c.vertices-by.ensures.count c.requires.limits in
    let none = ap (λ (g : Multigraph). length g.edges) c.new-graph.ensures in
    let size = ap (λ (g : Multigraph). g.vertices) c.new-graph.ensures in
    let more = grown-length c.new-graph.result c.add_moved.new.graph (moved 0 half.edges) c.in_ok-add_moved.ensures.added in
    let more' = grown-length c.add_moved.new.graph c.add_moved-2.new.graph (moved by half.edges) c.in_ok-add_moved-2.ensures.added in
    let same = grown-vertices c.new-graph.result c.add_moved.new.graph (moved 0 half.edges) c.in_ok-add_moved.ensures.added in
    let same' = grown-vertices c.add_moved.new.graph c.add_moved-2.new.graph (moved by half.edges) c.in_ok-add_moved-2.ensures.added in
    let one = length-map half.edges (moved_edge 0) in
    let two = length-map half.edges (moved_edge by) in
    let copies : value_total (at_most i) ≤ (half_graph i).vertices = omega arith in
    let there : half.vertices ≡ (half_graph i).vertices = ap (λ (g : Multigraph). g.vertices) c.in_ok-half.ensures in
    record {
      copies = omega (arith, copies, there, c.vertices-by.ensures.count);
      vertices = omega (arith, size, same, same');
      room = omega (arith, none, more, more', one, two, fit.1);
    }

pub returns : goal.returns
returns c =
    built c.args.instance.now c.in_ok-half.half c.new-graph.result c.add_moved.new.graph c.add_moved-2.new.graph c.add_pairs.new.graph c.vertices-by.result c.in_ok-half.ensures
    c.vertices-by.ensures.count c.new-graph.ensures c.in_ok-add_moved.ensures.added c.in_ok-add_moved-2.ensures.added c.in_ok-add_pairs.ensures.added
