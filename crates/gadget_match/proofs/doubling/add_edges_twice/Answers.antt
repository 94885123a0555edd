use Rattle.mb_problem.proofs.Common.{◌≡◌, ℕ, ◌<◌, ◌*◌, ◌∙◌, length, arith, ap, vertices}
use Rattle.gadget_base.proofs.Common.{blocks, two_copies}
use Rattle.gadget_match.proofs.BuildLemmas.{room-twice}
use Rattle.gadget_match.proofs.doubling.add_edges_twice.Goals as goal

pub add_twice-requires-clause-room : goal.add_twice-requires-clause-room
add_twice-requires-clause-room c =
    let i = c.args.instance.now in
    let k = c.loop-edge.edge-index in
    let below : k < length i.edges = omega (arith, ap length c.edge_list-edge-items.ensures.list) in
    room-twice i c.loop-edge.graph k c.requires.limits c.loop-edge.invariant below

pub returns : goal.returns
returns c =
    let i = c.args.instance.now in
    let all : c.loop-edge.edge-index ≡ length i.edges = omega (arith, ap length c.edge_list-edge-items.ensures.list, c.loop-edge-test.false, c.loop-edge.auto.edge-index-end) in
    record { added = c.loop-edge.invariant ∙ ap (λ (n : ℕ). record { vertices = 2 * vertices i; edges = blocks (two_copies i) n }) all }
