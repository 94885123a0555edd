use Rattle.graph_theory.proofs.Common.{arith, ints}
use Rattle.dual_check.proofs.AddLemmas.{added_at}
use Rattle.dual_check.proofs.totals.add_to.Goals as goal

pub returns-clause-exact : goal.returns-clause-exact
returns-clause-exact c =
    added_at c.args.totals.now c.args.place _ c.args.more c.requires.in_range (omega (arith, ints, c.requires.value_limit.0, c.requires.value_limit.1, c.requires.more.0, c.requires.more.1))
