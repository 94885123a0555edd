use Rattle.mb_problem.proofs.Common.{arith}
use Rattle.clap.proofs.WalkLemmas.{first_value-rows}
use Rattle.match_cli.proofs.parse.text_in.Goals as goal

pub returns : goal.returns
returns c = grind (arith, first_value-rows)
