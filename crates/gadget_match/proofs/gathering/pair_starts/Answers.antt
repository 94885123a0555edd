use Rattle.mb_problem.proofs.Common.{length, copy_pairs, IfOk-weaker}
use Rattle.gadget_base.proofs.StartLemmas.{starts_of}
use Rattle.gadget_match.proofs.gathering.pair_starts.Goals as goal

pub returns-clause-starts : goal.returns-clause-starts
returns-clause-starts c =
    IfOk-weaker c.wide_starts.result _ _ (λ starts are. starts_of (copy_pairs c.args.instance.now) (length c.args.instance.now.edges) c.in_ok-counts.counts.items c.deref.result.now
    starts.items c.deref.ensures.value c.in_ok-counts.ensures.size c.in_ok-counts.ensures.each are) c.wide_starts.ensures
