use Rattle.graph_theory.proofs.Common.{◌≡◌, ◌≢◌, ◌∙◌, ◌+◌, ◌*◌, ℤ, pos, neg_ℤ, ◌+ℤ◌, ◌-ℤ◌, ◌*ℤ◌, ◌≤ℤ◌, cond, sym, ap, ap₂, subst}
use Rattle.graph_theory.proofs.Common.{arith, rules, to_z, of_z, FitsSigned, ints, w64, w128, IsWeight}
use Rattle.graph_theory.specs.declared.limits.TheConstants.{GRAPH_VERTEX_LIMIT, NUMBER_LIMIT, WEIGHT_LIMIT}
use Rattle.blossom_arena.specs.Slack.{IsDualSum}
use Rattle.blossom_arena.specs.Family.{outermost}
use Rattle.alt_forest.specs.Searches.{state_of, is_given}
use Rattle.alt_forest.proofs.Places.{nested_of}
use Rattle.alt_forest.proofs.Leads.{leads_vertex, leads_weight}
use Rattle.alt_forest.proofs.DualSums.{slack_leading}
use Rattle.alt_forest.proofs.entries.slack_to.Goals as goal

-- a difference of which no part wraps
module _ (d n s : ℤ) (low : neg_ℤ (pos 2 *ℤ WEIGHT_LIMIT) ≤ℤ d) (high : d ≤ℤ (pos 2 *ℤ WEIGHT_LIMIT)) (near : IsDualSum n) (far : IsDualSum s) where
  whole : to_z w128 (of_z w128 (to_z w128 (of_z w128 d) -ℤ to_z w128 (of_z w128 (to_z w128 (of_z w128 n) +ℤ to_z w128 (of_z w128 s))))) ≡ d -ℤ (n +ℤ s)
  whole =
      let one : FitsSigned w128 n = omega (arith, ints, near) in
      let other : FitsSigned w128 s = omega (arith, ints, far) in
      let sum : FitsSigned w128 (n +ℤ s) = omega (arith, ints, near, far) in
      let twice : FitsSigned w128 d = omega (arith, ints, low, high) in
      let fits : FitsSigned w128 (d -ℤ (n +ℤ s)) = omega (arith, ints, low, high, near, far) in
      search rules

  most : (d -ℤ (n +ℤ s)) ≤ℤ (NUMBER_LIMIT *ℤ pos (2 * GRAPH_VERTEX_LIMIT + 1))
  most = omega (arith, ints, low, high, near, far)

pub doubled-requires : goal.doubled-requires
doubled-requires c =
    let p = c.args.incident.now in let kept : to_z w64 (of_z w64 p.weight) ≡ p.weight = search rules in
    subst IsWeight (sym kept) (leads_weight c.args.search.now.graph p.edge c.args.near.now.vertex p.far p.weight c.requires.sound.shape.graph.graph c.requires.incident)

pub dual_sum-requires : goal.dual_sum-requires
dual_sum-requires c = rw c.requires.sound.shape.arena (leads_vertex c.args.search.now.graph c.args.incident.now.edge c.args.near.now.vertex c.args.incident.now.far
    c.args.incident.now.weight c.requires.sound.shape.graph.graph c.requires.incident)

pub returns : goal.returns
returns c =
    let s = c.args.search.now in let near = c.requires.near in
    let kept : to_z w64 (of_z w64 c.args.incident.now.weight) ≡ c.args.incident.now.weight = search rules in
    let twice : c.from.result ≡ c.doubled.result = search rules in
    let low = subst (λ (x : ℤ). neg_ℤ (pos 2 *ℤ WEIGHT_LIMIT) ≤ℤ x) (sym twice) c.doubled.ensures.low in
    let high = subst (λ (x : ℤ). x ≤ℤ (pos 2 *ℤ WEIGHT_LIMIT)) (sym twice) c.doubled.ensures.high in
    let back = whole c.from.result c.args.near.now.dual_sum c.dual_sum.result low high near.in_range c.dual_sum.ensures.in_range in
    let ne : outermost s.arena.blossoms c.args.incident.now.far ≢ outermost s.arena.blossoms c.args.near.now.vertex = λ p. c.requires.apart (p ∙ sym near.node) in
    let slack = back
    ∙ ap₂ ◌-ℤ◌ (twice ∙ c.doubled.ensures.doubled ∙ ap (λ (w : ℤ). cond (is_given s.weights) (pos 2 *ℤ w) (pos 0)) kept)
    (ap₂ ◌+ℤ◌ near.dual_sum c.dual_sum.ensures.dual_sum)
    ∙ sym (slack_leading (state_of s) c.args.incident.now.edge c.args.near.now.vertex c.args.incident.now.far c.args.incident.now.weight c.requires.sound.shape.graph.graph
    (nested_of s c.requires.sound.shape) c.requires.incident ne) in
    record {
      slack = slack;
      low = subst (λ (x : ℤ). pos 0 ≤ℤ x) (sym slack) (c.requires.sound.state.slacks c.args.incident.now.edge c.requires.incident.number);
      high = subst (λ (x : ℤ). x ≤ℤ (NUMBER_LIMIT *ℤ pos (2 * GRAPH_VERTEX_LIMIT + 1))) (sym back)
          (most c.from.result c.args.near.now.dual_sum c.dual_sum.result low high near.in_range c.dual_sum.ensures.in_range);
    }
