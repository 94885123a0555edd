use Rattle.alt_forest.proofs.Common.{◌≢◌, ◌∙◌, refl, sym, ap, subst, arith, vec_capacity, IsOutermost, state_of}
use Rattle.alt_forest.specs.declared.search.Search.{Search}
use Rattle.tree_steps.proofs.Pushed.{leads_on, pushed_on, way_shorter, pushed_room, pushed_all, sound_with}
use Rattle.tree_steps.proofs.way_up.push_way.Goals as goal

pub loop-base-init : goal.loop-base-init
loop-base-init c = record { frame = refl; capacity = refl; pushed = record { outermost = c.requires.outermost; there = c.requires.on_path; links = refl } }

pub edge_above-edge-requires-clause-sound : goal.edge_above-edge-requires-clause-sound
edge_above-edge-requires-clause-sound c = sound_with c.args.search.now c.loop-base.search c.requires.sound c.loop-base.invariant.frame c.loop-base.invariant.capacity

pub edge_above-edge-requires-clause-outermost : goal.edge_above-edge-requires-clause-outermost
edge_above-edge-requires-clause-outermost c = subst (λ (f : Search). IsOutermost (state_of f) c.loop-base.node) (sym c.loop-base.invariant.frame) c.loop-base.invariant.pushed.outermost

pub push_reserved-requires : goal.push_reserved-requires
push_reserved-requires c =
    let i = c.loop-base.invariant in
    let ne : c.loop-base.node ≢ c.args.base = λ e. c.loop-base-test.true (c.number.ensures ∙ e ∙ sym c.number-in-loop-base.ensures) in
    let on = leads_on c.requires.sound i.pushed ne c.loop-base.search i.frame c.edge_above-edge.result c.edge_above-edge.ensures in
    let room = pushed_room c.requires.sound i.pushed c.loop-base.search c.edge_above-edge.result (vec_capacity c.args.search.now.circuit) on (omega (arith, c.requires.room)) in
    omega (arith, room, i.capacity)

pub other_node-node-requires-clause-edge : goal.other_node-node-requires-clause-edge
other_node-node-requires-clause-edge c =
    let i = c.loop-base.invariant in
    let ne : c.loop-base.node ≢ c.args.base = λ e. c.loop-base-test.true (c.number.ensures ∙ e ∙ sym c.number-in-loop-base.ensures) in
    let on = leads_on c.requires.sound i.pushed ne c.loop-base.search i.frame c.edge_above-edge.result c.edge_above-edge.ensures in
    on.number

pub loop-base-smaller : goal.loop-base-smaller
loop-base-smaller c =
    let i = c.loop-base.invariant in
    let ne : c.loop-base.node ≢ c.args.base = λ e. c.loop-base-test.true (c.number.ensures ∙ e ∙ sym c.number-in-loop-base.ensures) in
    let on = leads_on c.requires.sound i.pushed ne c.loop-base.search i.frame c.edge_above-edge.result c.edge_above-edge.ensures in
    way_shorter c.requires.sound i.pushed c.other_node-node.result (c.other_node-node.ensures.node ∙ on.up)

pub loop-base-preserved : goal.loop-base-preserved
loop-base-preserved c =
    let i = c.loop-base.invariant in
    let ne : c.loop-base.node ≢ c.args.base = λ e. c.loop-base-test.true (c.number.ensures ∙ e ∙ sym c.number-in-loop-base.ensures) in
    let on = leads_on c.requires.sound i.pushed ne c.loop-base.search i.frame c.edge_above-edge.result c.edge_above-edge.ensures in
    record {
      frame = ap {A = Search} (λ f. record f { circuit = c.push_reserved.new.self }) i.frame;
      capacity = c.push_reserved.ensures.capacity ∙ i.capacity;
      pushed = pushed_on c.requires.sound i.pushed c.loop-base.search c.edge_above-edge.result c.other_node-node.result c.push_reserved.new.self.items on
          (c.other_node-node.ensures.node ∙ on.up) c.push_reserved.ensures.items;
    }

pub returns-clause-circuit : goal.returns-clause-circuit
returns-clause-circuit c =
    pushed_all c.requires.sound c.loop-base.invariant.pushed (sym c.number.ensures ∙ c.loop-base-test.false ∙ c.number-in-loop-base.ensures)

pub returns-clause-sound : goal.returns-clause-sound
returns-clause-sound c = sound_with c.args.search.now c.loop-base.search c.requires.sound c.loop-base.invariant.frame c.loop-base.invariant.capacity
