use Rattle.graph_theory.proofs.Common.{w128, rules, to_z, of_z}
use Rattle.dual_change.proofs.EdgeDue.{outward_due}
use Rattle.dual_change.proofs.find_by_queue.outward.Goals as goal

pub ahead-requires-clause-later : goal.ahead-requires-clause-later
ahead-requires-clause-later c = (outward_due c.args.search.now c.args.e c.args.near c.args.far c.requires.sound c.requires.ends c.args.moment c.requires.entered c.requires.outer
    c.requires.out).later _ _ (search rules) (search rules)

pub returns-clause-candidate : goal.returns-clause-candidate
returns-clause-candidate c = (outward_due c.args.search.now c.args.e c.args.near c.args.far c.requires.sound c.requires.ends c.args.moment c.requires.entered c.requires.outer
    c.requires.out).leads (to_z w128 (of_z w128 c.ahead.result)) (search rules) c.requires.all_rooted
