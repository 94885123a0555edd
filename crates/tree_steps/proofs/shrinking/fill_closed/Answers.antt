use Rattle.alt_forest.proofs.Common.{◌≡◌, ◌∙◌, ℕ, true, sym, subst, arith, is_vertex, state_of, u_vertex, v_vertex}
use Rattle.tree_steps.proofs.ClosedBy.{ClosesAt, closes}
use Rattle.tree_steps.proofs.shrinking.fill_closed.Goals as goal

pub fill_circuit-requires : goal.fill_circuit-requires
fill_circuit-requires c =
    let m = closes c.args.search.now c.args.e _ _ _ _ c.meeting_node-base.result c.requires.sound c.requires.possible c.edge-u.ensures.from c.edge-u.ensures.to c.outermost-a.ensures.node
    c.outermost-b.ensures.node c.meeting_node-base.ensures in
    record { sound = c.requires.sound; a_outermost = m.a_is; b_outermost = m.b_is; a_there = m.a_there; b_there = m.b_there; room = omega (arith, m.room, c.requires.sound.shape.circuit) }

-- what is found
found : (c : goal.After-fill_circuit) → ClosesAt (state_of c.args.search.now) c.args.e c.outermost-a.result c.outermost-b.result c.meeting_node-base.result
found c = closes c.args.search.now c.args.e _ _ _ _ c.meeting_node-base.result c.requires.sound c.requires.possible c.edge-u.ensures.from c.edge-u.ensures.to c.outermost-a.ensures.node
    c.outermost-b.ensures.node c.meeting_node-base.ensures

pub returns-clause-closes : goal.returns-clause-closes
returns-clause-closes c = (found c).closes

pub returns-clause-circuit : goal.returns-clause-circuit
returns-clause-circuit c = c.fill_circuit.ensures.circuit ∙ (found c).is

pub outermost-a-requires : goal.outermost-a-requires
outermost-a-requires c =
    let s = c.args.search.now in
    rw c.requires.sound.shape.arena (subst (λ (a : ℕ). is_vertex s.graph.vertices a ≡ true) (sym c.edge-u.ensures.from)
    (u_vertex s.graph c.args.e c.requires.sound.shape.graph.graph.ends c.requires.possible.tight.edge))

pub outermost-b-requires : goal.outermost-b-requires
outermost-b-requires c =
    let s = c.args.search.now in
    rw c.requires.sound.shape.arena (subst (λ (a : ℕ). is_vertex s.graph.vertices a ≡ true) (sym c.edge-u.ensures.to)
    (v_vertex s.graph c.args.e c.requires.sound.shape.graph.graph.ends c.requires.possible.tight.edge))
