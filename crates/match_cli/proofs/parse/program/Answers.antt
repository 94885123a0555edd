use Rattle.match_cli.specs.Program.{program}
use Rattle.match_cli.proofs.parse.program.Goals as goal

pub returns : goal.returns
unfolding program
returns c = c.with_command.ensures _ _ (c.with_command-checking.ensures _ _ (c.with_command-solving.ensures _ _ c.top.ensures c.solve.ensures) c.check.ensures) c.trial.ensures
