use Rattle.mb_problem.proofs.Common.{◌≡◌, sym, subst, HasNoLoop, IfOk-weaker}
use Rattle.gadget_base.proofs.Common.{doubled_graph, doubled-no_loop, doubled_size}
use Rattle.gadget_match.proofs.DoubleLemmas.{double_reaches}
use Rattle.gadget_match.proofs.doubling.double.Goals as goal

pub returns : goal.returns
returns c =
    let i = c.args.instance.now in
    let network = c.vertices.ensures.network in
    let plain = IfOk-weaker c.build.result (λ h. h ≡ doubled_graph i) HasNoLoop (λ h is. subst HasNoLoop (sym is) (doubled-no_loop i network)) c.build.ensures in
    record { graph = c.build.ensures; size = doubled_size i; loopless = plain; reached = double_reaches i network }
