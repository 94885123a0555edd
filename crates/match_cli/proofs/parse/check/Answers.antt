use Rattle.match_cli.proofs.parse.check.Goals as goal

pub returns : goal.returns
returns c = c.with_wanted.ensures _ (c.new.ensures.app, c.new.ensures.local)
