use Rattle.graph_theory.proofs.Common.{length}
use Rattle.dual_check.proofs.LoneLemmas.{flag_off, kept_flag}
use Rattle.dual_check.proofs.nested.drop_own.Goals as goal

pub returns-then-is_empty-clause-exact : goal.returns-then-is_empty-clause-exact
returns-then-is_empty-clause-exact c = λ j.
    kept_flag c.args.flags.now c.args.set (length c.args.references.now) j c.is_empty.result c.is_empty.ensures c.if-is_empty.true

pub returns-clause-exact : goal.returns-clause-exact
returns-clause-exact c = λ j.
    flag_off c.args.flags.now c.args.set (length c.args.references.now) j c.is_empty.result c.requires c.is_empty.ensures c.if-is_empty.false
