use Rattle.mb_problem.proofs.Common.{map, string_bytes, IfOk-weaker}
use Rattle.match_cli.proofs.Ranges.{found_ranges}
use Rattle.match_cli.proofs.read.read_command.Goals as goal

pub returns-clause-ranges : goal.returns-clause-ranges
returns-clause-ranges c = IfOk-weaker c.read_words.result _ _ (λ o is. found_ranges (map string_bytes c.as_slice.result.now) o is) c.read_words.ensures
