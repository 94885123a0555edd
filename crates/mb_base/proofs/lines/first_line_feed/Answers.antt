use Rattle.mb_base.proofs.LineLemmas.{position_is_first}
use Rattle.mb_base.proofs.lines.first_line_feed.Goals as goal

pub returns-in_default : goal.returns-in_default
returns-in_default c = position_is_first c.args.bytes.now c.memchr.result c.memchr.ensures
