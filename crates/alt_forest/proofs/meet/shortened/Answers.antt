use Rattle.alt_forest.proofs.Routes.{drop_more}
use Rattle.alt_forest.proofs.meet.shortened.Goals as goal

pub loop-preserved : goal.loop-preserved
loop-preserved c = drop_more c.next.result c.args.path c.loop.rest c.next.new.self c.loop.counter c.next.ensures.steps c.loop.invariant
