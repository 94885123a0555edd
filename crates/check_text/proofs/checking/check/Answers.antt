use Rattle.check_text.proofs.checking.check.Goals as goal

pub returns : goal.returns
returns c = c.check_parts.ensures c.args.bytes.now c.read-parts.ensures.reading
