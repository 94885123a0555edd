use Rattle.mb_problem.proofs.Common.{ℕ, ◌+◌, ◌*◌, ◌++◌, ap, ◌∙◌, length, pos, Edge, Multigraph, vertices}
use Rattle.gadget_base.proofs.Common.{blocks, tabled, two_copies}
use Rattle.gadget_match.proofs.BuildLemmas.{room-join}
use Rattle.gadget_match.proofs.doubling.build.Goals as goal

pub join_copies-requires-clause-room : goal.join_copies-requires-clause-room
join_copies-requires-clause-room c = room-join c.args.instance.now c.add_edges_twice.new.graph c.vertices-n.result c.requires.limits c.in_ok-add_edges_twice.ensures.added
    c.vertices-n.ensures.count

pub returns : goal.returns
returns c =
    let i = c.args.instance.now in
    let n = c.vertices-n.result in
    let f : ℕ → ℕ → Edge = λ m k. record { u = k + 1; v = k + 1 + m; w = pos 0 } in
    c.in_ok-join_copies.ensures.added ∙ ap (λ (g : Multigraph). record g { edges = g.edges ++ tabled (f n) n }) c.in_ok-add_edges_twice.ensures.added
    ∙ ap (λ (m : ℕ). record { vertices = 2 * vertices i; edges = blocks (two_copies i) (length i.edges) ++ tabled (f m) m }) c.vertices-n.ensures.count
