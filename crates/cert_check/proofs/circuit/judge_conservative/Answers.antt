use Rattle.certificates.proofs.Common.{walk-in}
use Rattle.cert_check.proofs.circuit.judge_conservative.Goals as goal

pub has_negative_circuit-requires : goal.has_negative_circuit-requires
has_negative_circuit-requires c = walk-in c.args.kind c.args.instance.now c.args.document.now c.requires.within
