use Rattle.mb_problem.proofs.Common.{◌≡◌, ℤ, pos, List, ◌++◌, ◌∷◌, [], length, ap, ◌∙◌, rules}
use Rattle.array_joins.specs.declared.outcome.SetOutcome.{SetOutcome}
use Rattle.array_joins.specs.Numbers.{edge_numbers}
use Rattle.array_joins.proofs.Layouts.{edges-more, offsets-more}
use Rattle.array_joins.proofs.laying.edges_of.Goals as goal

pub loop-outcome-preserved : goal.loop-outcome-preserved
loop-outcome-preserved c =
    let os : List SetOutcome = c.args.outcomes.now in
    let k = c.loop-outcome.outcome-index in
    let o : SetOutcome = c.outcome-item.result in
    let all : List ℤ = c.loop-outcome.all.items in
    let begins : c.push.new.self.items ≡ c.loop-outcome.offsets.items ++ pos (length all) ∷ [] = search rules in
    record {
      offsets = begins ∙ offsets-more os k c.loop-outcome.offsets.items all c.loop-outcome.invariant.offsets c.loop-outcome.invariant.all;
      all = c.in_ok-push_edges.ensures ∙ ap (λ (xs : List ℤ). xs ++ edge_numbers o) c.loop-outcome.invariant.all ∙ edges-more os k o c.loop-outcome-test.true c.outcome-item.is;
    }
