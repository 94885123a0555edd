use Rattle.mb_problem.proofs.Common.{ap, ap₂, ◌∙◌, List, Option, [], unwrap_or}
use Rattle.std.proofs.Common.{option_map}
use Rattle.clap.specs.Words.{Row, Text}
use Rattle.match_cli.specs.Program.{command_in}
use Rattle.match_cli.proofs.FormLemmas.{by_name}
use Rattle.match_cli.proofs.parse.command_found.Goals as goal

pub returns-in-Some : goal.returns-in-Some
returns-in-Some c = λ name rows is.
    let a = c.in-Some.ensures.name ∙ by_name c.args.matches.now ∙ ap (option_map (λ (p : Text × List Row). p.0)) is in
    let b = c.in-Some.ensures.rows ∙ ap (option_map (λ (p : Text × List Row). p.1)) is in
    let names = ap (λ (o : Option Text). unwrap_or o []) a in
    let same = ap (λ (o : Option (List Row)). unwrap_or o []) b in
    c.command_in.ensures ∙ ap₂ command_in names same
