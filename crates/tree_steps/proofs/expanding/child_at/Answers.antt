use Rattle.alt_forest.proofs.Common.{◌≡◌, ◌∙◌, false, eqb, sym, ap, ne_eqb, edge_of, holds, members_of, outermost, node_u, node_v, nested_of, end_member, u_vertex, v_vertex}
use Rattle.tree_steps.proofs.Holders.{other_end_in}
use Rattle.tree_steps.proofs.expanding.child_at.Goals as goal

pub child_holding-requires-clause-inside : goal.child_holding-requires-clause-inside
child_holding-requires-clause-inside c =
    let f = c.args.search.now in let shape = c.requires.shape in let from = c.edge-u.ensures.from in
    let here : node_u f.graph f.arena.blossoms c.args.e ≡ c.args.b =
    ap (outermost f.arena.blossoms) (sym from) ∙ sym c.outermost.ensures.node ∙ sym c.number.ensures ∙ c.if-number.true ∙ c.number-2.ensures in
    ap (holds (members_of f.arena.blossoms c.args.b)) from
    ∙ end_member f.graph.vertices f.arena.blossoms c.args.b (edge_of f.graph c.args.e).u (nested_of f shape) (u_vertex f.graph c.args.e shape.graph.graph.ends c.requires.edge) here

pub child_holding-requires-2-clause-inside : goal.child_holding-requires-2-clause-inside
child_holding-requires-2-clause-inside c =
    let f = c.args.search.now in let shape = c.requires.shape in let from = c.edge-u.ensures.from in
    let to = c.edge-u.ensures.to in
    let elsewhere : eqb (node_u f.graph f.arena.blossoms c.args.e) c.args.b ≡ false =
    ne_eqb (node_u f.graph f.arena.blossoms c.args.e) c.args.b
    (λ q. c.if-number.false (c.number.ensures ∙ c.outermost.ensures.node ∙ ap (outermost f.arena.blossoms) from ∙ q ∙ sym c.number-2.ensures)) in
    let here : node_v f.graph f.arena.blossoms c.args.e ≡ c.args.b = other_end_in f.graph f.arena.blossoms c.args.b c.args.e elsewhere c.requires.leaves in
    ap (holds (members_of f.arena.blossoms c.args.b)) to
    ∙ end_member f.graph.vertices f.arena.blossoms c.args.b (edge_of f.graph c.args.e).v (nested_of f shape) (v_vertex f.graph c.args.e shape.graph.graph.ends c.requires.edge) here
