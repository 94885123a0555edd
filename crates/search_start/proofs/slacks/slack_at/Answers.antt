use Rattle.alt_forest.proofs.Common.{◌≡◌, ◌∙◌, pos, arith, ◌-ℤ◌, ◌*ℤ◌, cond, sym, ap, subst, rules, to_z, of_z, ints, IsWeight, is_given, state_of, leads_vertex}
use Rattle.alt_forest.proofs.Common.{leads_weight}
use Rattle.std.proofs.Common.{w64}
use Rattle.alt_forest.specs.declared.weights.Weights.{Weights}
use Rattle.search_start.proofs.StartIncidence.{slack_seen}
use Rattle.search_start.proofs.slacks.slack_at.Goals as goal

pub both_duals-duals-requires-clause-v : goal.both_duals-duals-requires-clause-v
both_duals-duals-requires-clause-v c =
    let p = c.args.incident.now in
    leads_vertex c.args.search.now.graph p.edge c.args.v p.far p.weight c.requires.sound.shape.graph.graph c.requires.incident

pub twice-requires : goal.twice-requires
twice-requires c =
    let p = c.args.incident.now in let kept : to_z w64 (of_z w64 p.weight) ≡ p.weight = search rules in
    subst IsWeight (sym kept) (leads_weight c.args.search.now.graph p.edge c.args.v p.far p.weight c.requires.sound.shape.graph.graph c.requires.incident)

pub returns-in-Zero : goal.returns-in-Zero
returns-in-Zero c =
    let s = c.args.search.now in let p = c.args.incident.now in let d = c.both_duals-duals.result in
    let back : to_z w64 (of_z w64 (pos 0 -ℤ to_z w64 (of_z w64 d))) ≡ pos 0 -ℤ d = search rules in
    record {
      slack = back ∙ sym (ap (λ (w : Weights). cond (is_given w) (pos 2 *ℤ p.weight) (pos 0) -ℤ d) c.in-Zero.is)
          ∙ slack_seen (state_of s) p.edge c.args.v p.far p.weight d c.requires.started.alone c.both_duals-duals.ensures.sum c.requires.incident;
    }

pub returns-in-Given : goal.returns-in-Given
returns-in-Given c =
    let s = c.args.search.now in let p = c.args.incident.now in let d = c.both_duals-duals.result in
    let t = c.twice.result in
    let back : to_z w64 (of_z w64 (to_z w64 (of_z w64 t) -ℤ to_z w64 (of_z w64 d))) ≡ t -ℤ d =
    omega (arith, ints, c.twice.ensures.low, c.twice.ensures.high, c.both_duals-duals.ensures.low, c.both_duals-duals.ensures.high) in
    let kept : to_z w64 (of_z w64 p.weight) ≡ p.weight = search rules in
    record {
      slack = back ∙ ap (λ x. x -ℤ d) (c.twice.ensures.twice ∙ ap (λ x. pos 2 *ℤ x) kept)
          ∙ sym (ap (λ (w : Weights). cond (is_given w) (pos 2 *ℤ p.weight) (pos 0) -ℤ d) c.in-Given.is)
          ∙ slack_seen (state_of s) p.edge c.args.v p.far p.weight d c.requires.started.alone c.both_duals-duals.ensures.sum c.requires.incident;
    }
