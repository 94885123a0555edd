use Rattle.alt_forest.proofs.Common.{◌≡◌, eqb, refl, ap, ◌∙◌, subst, arith, eqb-true, eqb-false, by_test, state_of, node_limit, other_outer}
use Rattle.state_check.proofs.Checked.{HasClimbed, climb_on, climb_end, climb_step, up_edge_is, up_outer}
use Rattle.state_check.proofs.ways.comes_to_end.Goals as goal

pub returns-then-node-eq0 : goal.returns-then-node-eq0
returns-then-node-eq0 c = (
  λ e. climb_end (state_of c.args.search.now) c.args.a c.loop.node c.loop.counter (node_limit c.args.search.now.graph.vertices) c.if-node-eq0.true
      (omega (arith, c.loop-test.true, c.node_limit-end.ensures.limit, c.requires.shape.arena)) c.loop.invariant.climbed,
  λ _. refl,
)

pub up-node-requires-clause-edge : goal.up-node-requires-clause-edge
up-node-requires-clause-edge c = λ e has.
    let is = c.loop.invariant.outermost c.if-node-eq0.false in
    up_edge_is (state_of c.args.search.now) c.loop.node e (c.requires.mates c.loop.node is) (c.requires.labels c.loop.node is) has

pub loop-preserved : goal.loop-preserved
loop-preserved c = record {
  outermost = λ ne. let is = c.loop.invariant.outermost c.if-node-eq0.false in
      up_outer (state_of c.args.search.now) c.loop.node c.up-node.result (λ e b number. other_outer c.args.search.now e b c.requires.shape number) (c.requires.mates c.loop.node is)
      (c.requires.labels c.loop.node is) c.up-node.ensures ne;
  climbed = climb_step (state_of c.args.search.now) c.args.a c.loop.node c.up-node.result c.loop.counter c.if-node-eq0.false c.up-node.ensures c.loop.invariant.climbed;
}

pub returns : goal.returns
returns c =
    let limit : c.node_limit-end.result ≡ node_limit c.args.search.now.graph.vertices = c.node_limit-end.ensures.limit ∙ ap node_limit c.requires.shape.arena in
    let at : c.loop.counter ≡ node_limit c.args.search.now.graph.vertices = omega (arith, limit, c.loop-test.false, c.loop.auto.counter-end) in
    let climbed = subst (λ k. HasClimbed (state_of c.args.search.now) c.args.a k c.loop.node) at c.loop.invariant.climbed in (
      λ e. climb_end (state_of c.args.search.now) c.args.a c.loop.node (node_limit c.args.search.now.graph.vertices) (node_limit c.args.search.now.graph.vertices)
          (eqb-true c.loop.node 0 e) (omega arith) climbed,
      λ short. by_test (eqb c.loop.node 0)
          (λ t. t)
          (λ t. absurd (omega (arith, short, climb_on (state_of c.args.search.now) c.args.a c.loop.node (node_limit c.args.search.now.graph.vertices) (eqb-false c.loop.node 0 t) climbed))),
    )
