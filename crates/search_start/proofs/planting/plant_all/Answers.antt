use Rattle.alt_forest.proofs.Common.{◌∙◌, sym, ap, arith, both_ways, IsExposed, state_of}
use Rattle.alt_forest.specs.declared.search.Search.{Search}
use Rattle.search_start.proofs.PlantedNodes.{planting_none, planting_put, planting_past, planting_done}
use Rattle.search_start.proofs.planting.plant_all.Goals as goal

pub loop-place-init : goal.loop-place-init
loop-place-init g c = record { planting = planting_none c.args.search.now c.args.steps.now c.requires.well_formed; event_times = c.requires.well_formed.event_times; count = omega arith }

pub plant-requires : goal.plant-requires
plant-requires g c =
    let i = c.loop-place.invariant.planting in
    let same = c.requires.same_graph ∙ sym (ap (λ (x : Search). x.graph) i.frame) in
    let exposed = c.is_exposed.ensures.0 c.if-not-is_exposed.false in
    let out = i.out c.new-node.result (omega (arith, c.new-node.ensures)) in
    record { sound = i.sound; event_times = c.loop-place.invariant.event_times; listed = i.listed; same_graph = same; exposed = exposed; out = out }

pub loop-place-preserved : goal.loop-place-preserved
loop-place-preserved g c =
    let i = c.loop-place.invariant in
    let e = c.plant.ensures in
    let planting = planting_put c.args.search.now c.loop-place.search c.plant.new.self c.loop-place.place c.new-node.result c.loop-place.some c.args.steps.now c.loop-place.steps
    c.plant.new.steps c.new-node.ensures i.planting e.sound e.listed e.frame e.labels e.trees e.exposed e.inspections in
    record { planting = planting; event_times = e.event_times; count = omega (arith, e.count, i.count) }

pub loop-place-preserved-then-not-is_exposed : goal.loop-place-preserved-then-not-is_exposed
loop-place-preserved-then-not-is_exposed g c =
    let i = c.loop-place.invariant in
    let free : IsExposed (state_of c.loop-place.search) c.new-node.result → ⊥ = λ x. both_ways c.is_exposed.result c.if-not-is_exposed.true (c.is_exposed.ensures.1 x) in
    record { planting = planting_past c.args.search.now _ _ _ _ c.args.steps.now _ c.new-node.ensures i.planting free; event_times = i.event_times; count = i.count }

pub returns-clause-all_rooted : goal.returns-clause-all_rooted
returns-clause-all_rooted g c = planting_done c.args.search.now c.loop-place.search c.loop-place.place c.node_limit-place-end.result c.loop-place.some c.args.steps.now c.loop-place.steps
    c.loop-place.invariant.planting c.node_limit-place-end.ensures.limit c.loop-place-test.false
