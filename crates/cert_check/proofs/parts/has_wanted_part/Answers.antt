use Rattle.certificates.proofs.Common.{odd-in, split-in}
use Rattle.cert_check.proofs.parts.has_wanted_part.Goals as goal

pub returns-in-OddPart-clause-exact : goal.returns-in-OddPart-clause-exact
returns-in-OddPart-clause-exact c = rw (← c.obstruction.ensures, c.in-OddPart.is) c.has_odd_part.ensures

pub returns-in-SplitPart-clause-exact : goal.returns-in-SplitPart-clause-exact
returns-in-SplitPart-clause-exact c = rw (← c.obstruction.ensures, c.in-SplitPart.is) c.has_split_part.ensures

pub has_odd_part-requires-clause-within : goal.has_odd_part-requires-clause-within
has_odd_part-requires-clause-within c = odd-in c.args.kind c.args.instance.now c.args.document.now c.requires

pub has_split_part-requires-clause-within : goal.has_split_part-requires-clause-within
has_split_part-requires-clause-within c = split-in c.args.kind c.args.instance.now c.args.document.now c.requires
