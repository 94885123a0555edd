use Rattle.mb_problem.proofs.Common.{rules, ◌≡◌, ◌+◌, ap, ◌∙◌, arith, length, Multigraph, vertices, odd_at}
use Rattle.gadget_base.specs.Gadgets.{ports_below}
use Rattle.gadget_tjoin.proofs.Steps.{groups-inside, groups-room, links-fit, filled-graph}
use Rattle.gadget_tjoin.proofs.build.fill.Goals as goal

pub add_cliques-requires-clause-inside : goal.add_cliques-requires-clause-inside
add_cliques-requires-clause-inside c = λ k b.
    let i = c.args.instance.now in
    let odd = odd_at c.args.parity i in
    let inside = groups-inside i odd c.args.before.now c.args.sizes.now k c.requires.groups b in
    let start : c.new-graph.result.vertices ≡ ports_below i odd (vertices i + 1) = search rules in
    let size : c.add_links.new.graph.vertices ≡ ports_below i odd (vertices i + 1) = ap (λ (g : Multigraph). g.vertices) c.in_ok-add_links.ensures.added ∙ start in
    omega (arith, inside, size)

pub add_cliques-requires-clause-room : goal.add_cliques-requires-clause-room
add_cliques-requires-clause-room c =
    let i = c.args.instance.now in
    let odd = odd_at c.args.parity i in
    let room = groups-room i odd c.args.before.now c.args.sizes.now c.requires.limits c.requires.groups in
    let size = links-fit i odd c.add_links.new.graph c.new-graph.result.vertices (length i.edges) c.in_ok-add_links.ensures.added in
    omega (arith, room, size)

pub returns : goal.returns
returns c =
    let i = c.args.instance.now in
    let start : c.new-graph.result.vertices ≡ ports_below i (odd_at c.args.parity i) (vertices i + 1) = search rules in
    record {
      graph = filled-graph i (odd_at c.args.parity i) c.args.before.now c.args.sizes.now c.new-graph.result.vertices c.add_links.new.graph c.add_cliques.new.graph c.requires.groups
          start c.in_ok-add_links.ensures.added c.in_ok-add_cliques.ensures.added;
    }
