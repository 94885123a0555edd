use Rattle.mb_problem.proofs.Common.{map, string_bytes}
use Rattle.match_cli.proofs.FormLemmas.{refused}
use Rattle.match_cli.proofs.read.read_words.Goals as goal

pub returns-in_default : goal.returns-in_default
returns-in_default c = refused (map string_bytes c.args.words.now) (rw c.in_default.is at c.in_ok-matches.ensures)

pub command_of-requires : goal.command_of-requires
command_of-requires c = rw c.in-Some.is at c.in_ok-matches.ensures
