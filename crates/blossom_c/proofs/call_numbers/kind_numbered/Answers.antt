use Rattle.blossom_c.proofs.KindNumbers.{is_numbered}
use Rattle.blossom_c.proofs.call_numbers.kind_numbered.Goals as goal

pub returns : goal.returns
returns c = is_numbered c.args.number c.numbered.result c.numbered.ensures
