use Rattle.alt_forest.proofs.Common.{◌≡◌, ◌+◌, ◌*◌, All, true, length, refl, sym, ap, subst, arith, is_vertex, state_of}
use Rattle.alt_forest.specs.declared.search.Search.{Search}
use Rattle.search_keys.proofs.Stale.{stale_most}
use Rattle.tree_steps.proofs.Left.{left_bounding}
use Rattle.tree_steps.proofs.Shrunk.{shrunk_blossom}
use Rattle.tree_steps.proofs.LooksLeft.{looks_within}
use Rattle.tree_steps.proofs.steps_by_keys.shrink_bounding.Goals as goal

pub enter_scanned-requires-clause-vertex_keys : goal.enter_scanned-requires-clause-vertex_keys
enter_scanned-requires-clause-vertex_keys g c =
    let e = c.shrink_closed-node.ensures in let b = c.args.bounds.now in
    left_bounding c.requires.sound e.step.leaves (ap (λ (y : Search). y.clock) e.frame) b b c.requires.vertex_keys (ap (λ (y : Search). y.weights) e.frame)
    (ap (λ (y : Search). y.queue) e.frame)
    c.requires.vertex_keys.places refl (λ v is. refl)
    (shrunk_blossom c.args.search.now c.shrink_closed-node.new.search c.shrink_closed-node.result b.moments c.requires.sound e.sound e.shrunk c.requires.vertex_keys.blossoms)

pub enter_scanned-requires-clause-vertices : goal.enter_scanned-requires-clause-vertices
enter_scanned-requires-clause-vertices g c =
    let k = c.shrink_closed-node.new.search in
    subst (λ (f : Search). All (λ v. is_vertex f.graph.vertices v ≡ true) k.scanned.items) (sym c.shrink_closed-node.ensures.frame) c.shrink_closed-node.ensures.step.vertices

-- what is stale has no more ends of edges than there are
pub returns-clause-stale : goal.returns-clause-stale
returns-clause-stale g c =
    let k = c.shrink_closed-node.new.search in
    let same : 2 * length k.graph.edges ≡ 2 * length c.args.search.now.graph.edges = ap (λ (x : Search). 2 * length x.graph.edges) c.shrink_closed-node.ensures.frame in
    omega (arith, same, stale_most k c.enter_scanned.new.self c.shrink_closed-node.ensures.sound.shape)

pub returns-clause-inspections : goal.returns-clause-inspections
returns-clause-inspections g c =
    let f = c.args.search.now in let k = c.shrink_closed-node.new.search in
    looks_within (state_of f) (state_of k) k.scanned.items (c.args.steps.now + 1) c.enter_scanned.new.steps (ap (λ (x : Search). x.graph) c.shrink_closed-node.ensures.frame)
    c.shrink_closed-node.ensures.step.blossoms c.shrink_closed-node.ensures.step.ends (omega (arith, c.enter_scanned.ensures.inspections, c.tick.ensures))
