use Rattle.mb_problem.proofs.Common.{sym, subst, HasNoLoop, IfOk-weaker}
use Rattle.gadget_cap.proofs.Ends.{gates-no_loop}
use Rattle.gadget_cap.proofs.Reached.{reached}
use Rattle.gadget_cap.proofs.Sizes.{has_size}
use Rattle.gadget_cap.proofs.subdivision.capped.Goals as goal

pub returns : goal.returns
returns c =
    let i = c.args.instance.now in
    let plain = gates-no_loop c.args.unit i c.vertices.ensures.network in
    record {
      graph = c.gated_graph.ensures;
      size = has_size c.args.unit i;
      loopless = IfOk-weaker c.gated_graph.result _ _ (λ h is. subst HasNoLoop (sym is) plain) c.gated_graph.ensures;
      reached = reached c.args.unit i c.vertices.ensures.network;
    }
