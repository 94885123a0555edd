use Rattle.mb_problem.proofs.Common.{length, IfOk-weaker}
use Rattle.gadget_base.proofs.StartLemmas.{starts_of}
use Rattle.gadget_cap.specs.Capped.{capped_room}
use Rattle.gadget_cap.specs.Places.{gate_size}
use Rattle.gadget_cap.proofs.entries.gate_starts.Goals as goal

pub returns : goal.returns
returns c =
    IfOk-weaker c.wide_starts.result _ _ (λ starts are. starts_of (gate_size c.args.instance.now (capped_room c.args.unit c.args.instance.now)) (length c.args.instance.now.edges)
    c.in_ok-sizes.sizes.items c.deref.result.now starts.items c.deref.ensures.value c.in_ok-sizes.ensures.size c.in_ok-sizes.ensures.each are) c.wide_starts.ensures
