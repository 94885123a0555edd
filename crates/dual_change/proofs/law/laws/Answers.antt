use Rattle.dual_change.proofs.Least.{outer_slack_even}
use Rattle.dual_change.proofs.Barrier.{inner_vertex, barrier}
use Rattle.dual_change.proofs.Total.{change_raises}
use Rattle.dual_change.proofs.law.laws.Goals as goal

pub returns : goal.returns
returns c = record { inner = inner_vertex; barrier = barrier; parity = outer_slack_even; total = change_raises }
