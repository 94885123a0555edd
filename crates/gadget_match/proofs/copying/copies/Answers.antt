use Rattle.mb_problem.proofs.Common.{◌≡◌, sym, subst, HasNoLoop, IfOk-weaker}
use Rattle.gadget_base.proofs.Common.{copies_graph, copies-no_loop, copies_size}
use Rattle.gadget_match.proofs.CopyLemmas.{copies_reach}
use Rattle.gadget_match.proofs.copying.copies.Goals as goal

pub returns : goal.returns
returns c =
    let i = c.args.instance.now in
    let network = c.vertices.ensures.network in
    let plain = IfOk-weaker c.build.result (λ h. h ≡ copies_graph i) HasNoLoop (λ h is. subst HasNoLoop (sym is) (copies-no_loop i network)) c.build.ensures in
    record { graph = c.build.ensures; size = copies_size i; loopless = plain; reached = copies_reach i network }
