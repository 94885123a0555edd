use Rattle.mb_problem.proofs.Common.{ℕ, [], ap, ◌∙◌, arith, length, rules, Multigraph, vertices, standing, in_first, in_second}
use Rattle.gadget_parity.proofs.Building.{numbers-inside, numbers-same_list, built}
use Rattle.gadget_parity.proofs.layers.build.Goals as goal

pub add_copies-requires : goal.add_copies-requires
add_copies-requires c =
    let i = c.args.instance.now in
    let first = in_first c.args.odd i in
    let sides = c.in_ok-first.ensures in
    let total = ap (λ (g : Multigraph). g.vertices) c.new-graph.ensures ∙ sides.count in
    record {
      first = search rules;
      second = search rules;
      inside_first = numbers-inside first 0 (vertices i) _ c.in_ok-first.first.items c.deref.result.now sides.first (omega (arith, total)) c.deref.ensures.value;
      inside_second = numbers-inside (in_second c.args.odd i) (standing first (vertices i)) (vertices i) _ c.in_ok-first.second.items c.deref-2.result.now sides.second
          (omega (arith, total)) c.deref-2.ensures.value;
      room = omega (arith, c.number_sides.ensures.network.few_edges, ap (λ (g : Multigraph). length g.edges) c.new-graph.ensures);
    }

pub join_copies-requires : goal.join_copies-requires
join_copies-requires c =
    let i = c.args.instance.now in
    let first = in_first c.args.odd i in
    let sides = c.in_ok-first.ensures in
    let network = c.number_sides.ensures.network in
    let total = ap (λ (g : Multigraph). g.vertices) c.in_ok-add_copies.ensures.added ∙ ap (λ (g : Multigraph). g.vertices) c.new-graph.ensures ∙ sides.count in
    let none = ap (λ (g : Multigraph). length g.edges) c.new-graph.ensures in
    let size = ap length c.deref-3.ensures.value ∙ sides.first.one_each in
    record {
      size = search rules;
      inside_first = numbers-inside first 0 (vertices i) _ c.in_ok-first.first.items c.deref-3.result.now sides.first (omega (arith, total)) c.deref-3.ensures.value;
      inside_second = numbers-inside (in_second c.args.odd i) (standing first (vertices i)) (vertices i) _ c.in_ok-first.second.items c.deref-4.result.now sides.second
          (omega (arith, total)) c.deref-4.ensures.value;
      room = omega (arith, network.few_edges, network.few_vertices, none, c.in_ok-add_copies.ensures.size_limit, size);
    }

pub returns-clause-graph : goal.returns-clause-graph
returns-clause-graph c =
    let i = c.args.instance.now in
    let one = in_first c.args.odd i in
    let two = in_second c.args.odd i in
    let n = vertices i in
    let before = standing one n in
    let sides = c.in_ok-first.ensures in
    built one two i c.deref.result.now c.deref-2.result.now c.deref-3.result.now c.deref-4.result.now c.new-graph.result c.add_copies.new.graph c.join_copies.new.graph
    c.number_sides.ensures.network (numbers-same_list one 0 n c.in_ok-first.first.items c.deref.result.now sides.first c.deref.ensures.value)
    (numbers-same_list two before n c.in_ok-first.second.items c.deref-2.result.now sides.second c.deref-2.ensures.value)
    (numbers-same_list one 0 n c.in_ok-first.first.items c.deref-3.result.now sides.first c.deref-3.ensures.value)
    (numbers-same_list two before n c.in_ok-first.second.items c.deref-4.result.now sides.second c.deref-4.ensures.value)
    (c.new-graph.ensures ∙ ap (λ (v : ℕ). record { vertices = v; edges = [] }) sides.count) c.in_ok-add_copies.ensures.added c.in_ok-join_copies.ensures.added
