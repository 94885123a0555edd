use Rattle.graph_theory.proofs.Common.{neg_ℤ, ◌≡◌, ◌≢◌, ◌∙◌, ◌+ℤ◌, ◌*ℤ◌, ◌≤ℤ◌, pos, List, ap₂, arith, rules, to_z, of_z, sym, ints, w128}
use Rattle.graph_theory.specs.declared.edge.Edge.{Edge}
use Rattle.graph_theory.specs.declared.limits.TheConstants.{NUMBER_LIMIT, GRAPH_VERTEX_LIMIT}
use Rattle.blossom_arena.specs.Slack.{duals_across}
use Rattle.blossom_arena.specs.Family.{Blossom, dual_at, outermost}
use Rattle.alt_forest.specs.Chains.{holders}
use Rattle.alt_forest.proofs.Forks.{IsEnds, ends_of, across_split, holders_few}
use Rattle.alt_forest.proofs.DualSums.{across_apart}
use Rattle.alt_forest.proofs.Totals.{total_within}
use Rattle.alt_forest.proofs.slack.duals_across.Goals.{After-outermost, After-dual_sum-2}
use Rattle.alt_forest.proofs.slack.duals_across.Goals as goal

ends : (c : After-outermost) → IsEnds c.args.arena.now.vertex_count c.args.arena.now.blossoms c.args.edge.now.u c.args.edge.now.v
ends c = ends_of c.args.arena.now.vertex_count c.args.arena.now.blossoms c.args.edge.now c.outermost.ensures.is_family.nested c.outermost.ensures.is_family.size_limit c.requires.ends
    c.requires.loopless

-- so many duals are felt
within : (c : After-outermost) → (neg_ℤ (NUMBER_LIMIT *ℤ pos GRAPH_VERTEX_LIMIT) ≤ℤ duals_across (dual_at c.args.arena.now.duals) c.args.arena.now.blossoms c.args.edge.now)
    × (duals_across (dual_at c.args.arena.now.duals) c.args.arena.now.blossoms c.args.edge.now ≤ℤ (NUMBER_LIMIT *ℤ pos GRAPH_VERTEX_LIMIT))
within c =
    let e : Edge = c.args.edge.now in let bs : List Blossom = c.args.arena.now.blossoms in
    let parts = across_split (dual_at c.args.arena.now.duals) bs e in
    let left = total_within c.args.arena.now.duals (holders bs e.u e.v) c.outermost.ensures.is_family.duals.in_range in
    let right = total_within c.args.arena.now.duals (holders bs e.v e.u) c.outermost.ensures.is_family.duals.in_range in
    let few = holders_few c.args.arena.now.vertex_count bs e.u e.v (ends c) in
    (omega (arith, ints, parts, left.0, right.0, few), omega (arith, ints, parts, left.1, right.1, few))

sum_is : (c : After-dual_sum-2) → c.dual_sum.result +ℤ c.dual_sum-2.result ≡ duals_across (dual_at c.args.arena.now.duals) c.args.arena.now.blossoms c.args.edge.now
sum_is c =
    let e : Edge = c.args.edge.now in let bs : List Blossom = c.args.arena.now.blossoms in
    let h = ends_of c.args.arena.now.vertex_count bs e c.outermost.ensures.is_family.nested c.outermost.ensures.is_family.size_limit c.requires.ends c.requires.loopless in
    let ne : outermost bs e.u ≢ outermost bs e.v =
    λ p. c.if-number.false (c.number.ensures ∙ c.outermost.ensures.node ∙ p ∙ sym c.outermost-2.ensures.node ∙ sym c.number-2.ensures) in
    ap₂ ◌+ℤ◌ c.dual_sum.ensures.dual_sum c.dual_sum-2.ensures.dual_sum
    ∙ sym (across_apart c.args.arena.now.vertex_count (dual_at c.args.arena.now.duals) bs e h.nested h.u_is h.v_is ne)

pub overflow_add-result : goal.overflow_add-result
overflow_add-result c =
    let one : to_z w128 (of_z w128 c.dual_sum.result) ≡ c.dual_sum.result = search rules in
    let other : to_z w128 (of_z w128 c.dual_sum-2.result) ≡ c.dual_sum-2.result = search rules in
    omega (arith, ints, one, other, sum_is (goal.at.overflow_add-result c).After-dual_sum-2, within (goal.at.overflow_add-result c).After-outermost)

pub returns : goal.returns
returns c =
    let back : to_z w128 (of_z w128 (to_z w128 (of_z w128 c.dual_sum.result) +ℤ to_z w128 (of_z w128 c.dual_sum-2.result))) ≡ c.dual_sum.result +ℤ c.dual_sum-2.result = search rules in
    let is = back ∙ sum_is (goal.at.returns c).After-dual_sum-2 in
    let bounds = within (goal.at.returns c).After-outermost in
    record { duals_across = is; low = omega (arith, ints, is, bounds.0); high = omega (arith, ints, is, bounds.1) }
