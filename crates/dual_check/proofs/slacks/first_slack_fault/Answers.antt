use Rattle.graph_theory.proofs.Common.{◌≡◌, ◌∙◌, ℕ, ℤ, ◌+◌, ◌-◌, pos, ◌≤ℤ◌, ◌<ℤ◌, arith, rules, to_z, of_z, below_more, subst, sym, ap, length, ints}
use Rattle.graph_theory.proofs.Common.{All-from_get_or, w128, slack, listed_sets, edge_at, edge_of, no_edge}
use Rattle.dual_check.specs.Crossed.{total_at}
use Rattle.dual_check.proofs.GivenLemmas.{listed-within_all, slack_is}
use Rattle.dual_check.proofs.slacks.first_slack_fault.Goals as goal

pub slack_of-requires-clause-value_limit : goal.slack_of-requires-clause-value_limit
slack_of-requires-clause-value_limit c =
    let whole : length c.edge_list-edge-items.result.now ≡ length c.args.graph.now.edges = ap length c.edge_list-edge-items.ensures.list in
    let exact = c.requires.totals.exact (c.loop-k.k + 1) (omega arith, omega arith) in
    let r = listed-within_all c.args.graph.now.vertices c.args.sets.now (edge_of c.args.graph.now (c.loop-k.k + 1)) c.requires.set_numbers in
    (omega (arith, ints, r.0, exact), omega (arith, ints, r.1, exact))

pub loop-k-preserved : goal.loop-k-preserved
loop-k-preserved c =
    let k = c.loop-k.k in
    let back : to_z w128 (of_z w128 (total_at c.args.totals.now (k + 1))) ≡ total_at c.args.totals.now (k + 1) = search rules in
    let same = slack_is c.args.graph.now c.args.y.now c.args.sets.now c.args.totals.now c.edge_list-edge-items.result.now k c.edge-item.result _ c.slack_of.result c.requires.totals
    c.edge_list-edge-items.ensures.list c.loop-k-test.true c.edge-item.is back c.slack_of.ensures in
    let low : pos 0 ≤ℤ c.slack_of.result = grind (arith, ints) in
    let P : ℤ → Type 0 = λ z. pos 0 ≤ℤ z in
    below_more _ _ c.loop-k.invariant (subst P same low)

pub returns-clause-slacks : goal.returns-clause-slacks
returns-clause-slacks c =
    let whole : length c.edge_list-edge-items.result.now ≡ length c.args.graph.now.edges = ap length c.edge_list-edge-items.ensures.list in
    All-from_get_or (λ e. pos 0 ≤ℤ slack c.args.y.now (listed_sets c.args.graph.now.vertices c.args.sets.now) e) c.args.graph.now.edges no_edge
    (λ k b. c.loop-k.invariant k (omega arith))

pub returns-then-slack_of-lt0-clause-slacks : goal.returns-then-slack_of-lt0-clause-slacks
returns-then-slack_of-lt0-clause-slacks c =
    let g = c.args.graph.now in
    let k = c.loop-k.k in
    let whole : length c.edge_list-edge-items.result.now ≡ length g.edges = ap length c.edge_list-edge-items.ensures.list in
    let back : to_z w128 (of_z w128 (total_at c.args.totals.now (k + 1))) ≡ total_at c.args.totals.now (k + 1) = search rules in
    let same = slack_is g c.args.y.now c.args.sets.now c.args.totals.now c.edge_list-edge-items.result.now k c.edge-item.result _ c.slack_of.result c.requires.totals
    c.edge_list-edge-items.ensures.list c.loop-k-test.true c.edge-item.is back c.slack_of.ensures in
    let number : c.new.result ≡ k + 1 = omega (arith, c.new.ensures, c.edge_list-edge-items.ensures.graph.few_edges) in
    let place : c.new.result - 1 ≡ k = omega arith in
    let low : c.slack_of.result <ℤ pos 0 = grind (arith, ints) in
    let P : ℤ → Type 0 = λ z. z <ℤ pos 0 in
    record {
      forms = c.requires.forms;
      number = (omega arith, omega arith);
      below = subst P (same ∙ ap (λ (j : ℕ). slack c.args.y.now (listed_sets g.vertices c.args.sets.now) (edge_at g j)) (sym place)) low;
      before = λ f first less. c.loop-k.invariant (f - 1) (omega arith);
    }

pub returns-then-slack_of-lt0-clause-graph : goal.returns-then-slack_of-lt0-clause-graph
returns-then-slack_of-lt0-clause-graph c = c.edge_list-edge-items.ensures.graph
