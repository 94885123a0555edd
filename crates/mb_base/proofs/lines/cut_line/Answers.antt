use Rattle.std.proofs.Common.{◌+◌, arith, ◌∙◌, sym}
use Rattle.std.proofs.lemmas.List.{take_rest}
use Rattle.mb_base.proofs.LineLemmas.{raw_lines_first, raw_lines_last, after_first_some, after_first_none}
use Rattle.mb_base.proofs.lines.cut_line.Goals as goal

pub returns-in-Some-clause-lines : goal.returns-in-Some-clause-lines
returns-in-Some-clause-lines c = rw (take_rest c.args.bytes.now (c.in-Some.end + 1)) (raw_lines_first c.args.bytes.now c.in-Some.end (sym c.first_line_feed.ensures ∙ c.in-Some.is))

pub returns-in-Some-clause-after : goal.returns-in-Some-clause-after
returns-in-Some-clause-after c = take_rest c.args.bytes.now (c.in-Some.end + 1) ∙ sym (after_first_some c.args.bytes.now c.in-Some.end (sym c.first_line_feed.ensures ∙ c.in-Some.is))

pub returns-in-None-clause-lines : goal.returns-in-None-clause-lines
returns-in-None-clause-lines c = raw_lines_last c.args.bytes.now (sym c.first_line_feed.ensures ∙ c.in-None.is) (omega arith)

pub returns-in-None-clause-after : goal.returns-in-None-clause-after
returns-in-None-clause-after c = sym (after_first_none c.args.bytes.now (sym c.first_line_feed.ensures ∙ c.in-None.is))
