use Rattle.match_cli.proofs.parse.solve.Goals as goal

pub returns : goal.returns
returns c = c.with_argument.ensures _ _ c.brief.ensures (c.with_wanted-solve.ensures _ (c.new.ensures.app, c.new.ensures.local))
