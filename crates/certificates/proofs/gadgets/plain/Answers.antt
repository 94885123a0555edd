use Rattle.gadget_base.proofs.Common.{plain-size, perfect-reached}
use Rattle.certificates.proofs.gadgets.plain.Goals as goal

pub returns-clause-size : goal.returns-clause-size
returns-clause-size c = plain-size c.args.instance.now

pub returns-clause-reached : goal.returns-clause-reached
returns-clause-reached c = perfect-reached c.args.instance.now c.vertices.ensures.network
