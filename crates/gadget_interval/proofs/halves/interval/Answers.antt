use Rattle.mb_problem.proofs.Common.{sym, subst, HasNoLoop, IfOk-weaker}
use Rattle.gadget_interval.proofs.Ends.{halves-no_loop}
use Rattle.gadget_interval.proofs.Reached.{reached}
use Rattle.gadget_interval.proofs.Sizes.{sized}
use Rattle.gadget_interval.proofs.halves.interval.Goals as goal

pub returns : goal.returns
returns c =
    let i = c.args.instance.now in
    record {
      graph = c.halves_of.ensures;
      size = sized i;
      loopless = IfOk-weaker c.halves_of.result _ _ (λ h is. subst HasNoLoop (sym is) (halves-no_loop i c.vertices.ensures.network)) c.halves_of.ensures;
      reached = reached i c.vertices.ensures.network;
    }
