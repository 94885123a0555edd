use Rattle.mb_problem.proofs.Common.{length, arith}
use Rattle.array_joins.proofs.Starts.{bounds}
use Rattle.array_joins.proofs.sets.set_at.Goals as goal

pub prove-unreachable-requires : goal.prove-unreachable-requires
prove-unreachable-requires c =
    let in_order = (bounds c.args.starts.now (length c.args.terminals.now) c.args.k c.requires.starts c.requires.in_range).0 in
    omega (arith, in_order, c.if-prove.true)

pub prove-unreachable-requires-2 : goal.prove-unreachable-requires-2
prove-unreachable-requires-2 c =
    let within = (bounds c.args.starts.now (length c.args.terminals.now) c.args.k c.requires.starts c.requires.in_range).1 in
    omega (arith, within, c.if-prove-2.true)
