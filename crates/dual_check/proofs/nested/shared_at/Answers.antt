use Rattle.graph_theory.proofs.Common.{◌≡◌, ◌∙◌, arith, to_z, of_z, length, ints}
use Rattle.std.specs.Int.{w128}
use Rattle.dual_check.proofs.ReachedLemmas.{shared_turned}
use Rattle.dual_check.proofs.nested.shared_at.Goals as goal

pub returns-clause-exact : goal.returns-clause-exact
returns-clause-exact c =
    let same : to_z w128 (of_z w128 c.shared-2.result) ≡ c.shared-2.result = omega (arith, ints, c.shared-2.ensures.value_limit.0, c.shared-2.ensures.value_limit.1) in
    same ∙ c.shared-2.ensures.exact ∙ shared_turned c.args.sets.now (length c.args.sets.now) c.args.forest.now c.args.q c.args.p
