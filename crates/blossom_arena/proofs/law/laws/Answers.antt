use Rattle.blossom_arena.proofs.Theorems.{sets_odd, sets_form, sets_laminar, sets_differ, slack_by_nodes, listed_by_nodes}
use Rattle.blossom_arena.proofs.law.laws.Goals as goal

pub returns : goal.returns
returns c = record { odd = sets_odd; form = sets_form; laminar = sets_laminar; different = sets_differ; slack = slack_by_nodes; listed = listed_by_nodes }
