use Rattle.mb_problem.proofs.Common.{◌≡◌, ◌≢◌, List, ℤ, length, ap, sym, ◌∙◌, subst, vertices}
use Rattle.bottleneck.specs.Halving.{IsRange, IsStart}
use Rattle.bottleneck.proofs.Ranges.{started, answered, plain_limits, plain_few, plain_paid}
use Rattle.bottleneck.proofs.least.threshold.Goals as goal

pub halve-requires-clause-limits : goal.halve-requires-clause-limits
halve-requires-clause-limits g c = plain_limits c.args.instance.now c.in_ok-graph.graph c.in_ok-graph.ensures.graph c.vertices.ensures.network

pub halve-requires-clause-range : goal.halve-requires-clause-range
halve-requires-clause-range g c =
    let r = c.range_from-range.ensures in
    let ws = c.in_ok-weights.weights.items in
    let size = r.high ∙ ap length c.deref-2.ensures.value in
    let at : IsStart c.in_ok-graph.graph ws c.in_ok-first.first = subst (λ (zs : List ℤ). IsStart c.in_ok-graph.graph zs c.in_ok-first.first) c.deref.ensures.value c.in_ok-first.ensures in
    rw (c.deref-3.ensures.value)
    (started c.in_ok-graph.graph ws c.range_from-range.result c.in_ok-first.first c.in_ok-weights.ensures.is_graph c.in_ok-weights.ensures.weights at r.low size r.barrier)

pub halve-requires-clause-size_limit : goal.halve-requires-clause-size_limit
halve-requires-clause-size_limit g c =
    rw (c.range_from-range.ensures.high, c.deref-2.ensures.value)
    (plain_few c.args.instance.now c.in_ok-graph.graph c.in_ok-weights.weights.items c.in_ok-graph.ensures.graph c.vertices.ensures.network c.in_ok-weights.ensures.weights)

pub returns-in_err-halve-clause-steps : goal.returns-in_err-halve-clause-steps
returns-in_err-halve-clause-steps g c =
    plain_paid c.args.instance.now c.in_ok-graph.graph c.args.steps.now c.halve.new.steps c.in_ok-graph.ensures.graph c.halve.ensures.steps

pub returns-clause-found : goal.returns-clause-found
returns-clause-found g c =
    let i = c.args.instance.now in
    let some : vertices i ≢ 0 = λ none. c.if-vertices-eq0.false (c.vertices.ensures.count ∙ none) in
    let same : c.deref-3.result.now ≡ c.deref-4.result.now = c.deref-3.ensures.value ∙ sym c.deref-4.ensures.value in
    let range = subst (λ (ws : List ℤ). IsRange c.in_ok-graph.graph ws c.halve.new.range) same c.in_ok-halve.ensures.range in
    rw (c.told.ensures)
    (answered i c.in_ok-graph.graph c.deref-4.result.now c.halve.new.range c.in_ok-graph.ensures.graph c.in_ok-weights.ensures.is_graph
    c.in_ok-graph.ensures.loopless some range c.in_ok-halve.ensures.one)

pub returns-clause-steps : goal.returns-clause-steps
returns-clause-steps g c =
    plain_paid c.args.instance.now c.in_ok-graph.graph c.args.steps.now c.halve.new.steps c.in_ok-graph.ensures.graph c.halve.ensures.steps
