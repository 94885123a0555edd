use Rattle.mb_problem.proofs.Common.{◌≡◌, ℕ, ◌+◌, ap, sym, ◌∙◌, subst, arith, slice_index, length, List, rules, Multigraph, IsEdgeWithin, vertices, odd_at}
use Rattle.mb_problem.specs.declared.instance.InstanceEdge.{InstanceEdge}
use Rattle.gadget_base.proofs.Common.{tabled, ports_below, between_ports, edge_here, place_here}
use Rattle.gadget_tjoin.specs.Groups.{next_link}
use Rattle.gadget_tjoin.proofs.PortEdges.{link-within}
use Rattle.gadget_tjoin.proofs.Steps.{next-link, next-small, links-fit, grown-link, next-step}
use Rattle.gadget_tjoin.proofs.port_links.add_links.Goals as goal

pub add_link-requires : goal.add_link-requires
add_link-requires c =
    let i = c.args.instance.now in
    let odd = odd_at c.args.parity i in
    let k = c.loop-edge.edge-index in
    let e = c.edge-item.result in
    let next = c.loop-edge.next in
    let items = c.edge_list-edge-items in
    let ok = items.ensures.network in
    let b = place_here i items.result.now k items.ensures.list c.loop-edge-test.true in
    let is = edge_here i items.result.now k e items.ensures.list c.loop-edge-test.true c.edge-item.is in
    let link = next-link i odd next k e ok b is c.loop-edge.invariant.each in
    let small = next-small i odd next k e ok b c.requires.limits link in
    let size : c.loop-edge.graph.vertices ≡ ports_below i odd (vertices i + 1) = ap (λ (g : Multigraph). g.vertices) c.loop-edge.invariant.graph
    ∙ ap (λ (g : Multigraph). g.vertices) c.requires.start in
    record {
      from = search rules;
      small_u = omega (arith, small.0);
      small_v = omega (arith, small.1);
      room = omega (arith, b, ok.few_edges, links-fit i odd c.loop-edge.graph c.args.graph.now.vertices k c.loop-edge.invariant.graph);
      ends = subst (λ (n : ℕ). IsEdgeWithin n (next_link next e)) (sym size) (subst (IsEdgeWithin (ports_below i odd (vertices i + 1))) (sym link) (link-within i odd k ok b));
      weight = search rules;
    }

pub loop-edge-preserved : goal.loop-edge-preserved
loop-edge-preserved c =
    let i = c.args.instance.now in
    let odd = odd_at c.args.parity i in
    let k = c.loop-edge.edge-index in
    let e = c.edge-item.result in
    let items = c.edge_list-edge-items in
    let b = place_here i items.result.now k items.ensures.list c.loop-edge-test.true in
    let is = edge_here i items.result.now k e items.ensures.list c.loop-edge-test.true c.edge-item.is in
    let link = next-link i odd c.loop-edge.next k e items.ensures.network b is c.loop-edge.invariant.each in
    record {
      graph = grown-link (between_ports i odd) c.loop-edge.graph c.add_link.new.graph c.args.graph.now.vertices k (next_link c.loop-edge.next e) c.loop-edge.invariant.graph
          c.in_ok-add_link.ensures.added link;
      size = c.in_ok-add_link.ensures.size ∙ c.loop-edge.invariant.size;
      each = λ t below.
          let long = c.requires.size in
          let same = c.loop-edge.invariant.size in
          next-step i odd k t (slice_index c.loop-edge.next t) (slice_index c.add_link.new.next t) e is (c.loop-edge.invariant.each t below) (c.in_ok-add_link.ensures.each t
          (omega (arith, below, long, same)));
    }

pub returns : goal.returns
returns c =
    let i = c.args.instance.now in
    let g = c.args.graph.now in
    let list = ap (λ (es : List InstanceEdge). length es) c.edge_list-edge-items.ensures.list in
    let all : c.loop-edge.edge-index ≡ length i.edges = omega (arith, list, c.loop-edge-test.false, c.loop-edge.auto.edge-index-end) in
    record { added = c.loop-edge.invariant.graph ∙ ap (λ (n : ℕ). record g { edges = tabled (between_ports i (odd_at c.args.parity i)) n }) all }
