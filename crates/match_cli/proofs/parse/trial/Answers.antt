use Rattle.match_cli.proofs.parse.trial.Goals as goal

pub returns : goal.returns
returns c =
    let two = c.with_wanted-trial-2.ensures _ (c.with_wanted-trial.ensures _ (c.new.ensures.app, c.new.ensures.local)) in
    c.with_wanted.ensures _ (c.with_wanted-trial-3.ensures _ two)
