-- The command line as clap reads it.
use Rattle.std.specs.Prelude.{ℕ, List, [], Bool, codes, true, if◌then◌else◌, Option, None, Some}
use Rattle.std.specs.Prelude.{unwrap_or}
use Rattle.std.specs.Str.{bytes_eq}
use Rattle.clap.specs.Words.{App, Row, Rule, Text, first_of, new_app, new_rule, subcommand_of}
use Rattle.clap.specs.Words.{takes, with_rule, with_subcommand}
use Rattle.clap.specs.declared.builder.action.ArgAction.TheVariants.{SetTrue}
use Rattle.match_cli.specs.declared.command.Command.{Command}
use Rattle.match_cli.specs.Arguments.{detail_by, solve_named, check_named, trial_by}

-- a word that is wanted
abbrev pub wanted : Text → Rule
wanted id = record (new_rule id) { required = true }

abbrev pub brief : Rule
brief = record (new_rule (codes "brief")) { long = Some (codes "brief"); action = Some SetTrue }

abbrev pub solve : App
solve = with_rule (with_rule (new_app (codes "solve")) (wanted (codes "kind"))) brief

abbrev pub check : App
check = with_rule (new_app (codes "check")) (wanted (codes "kind"))

abbrev pub trial : App
trial = with_rule (with_rule (with_rule (with_rule (new_app (codes "trial"))
    (wanted (codes "kind"))) (wanted (codes "start"))) (wanted (codes "vertices")))
    (wanted (codes "edges"))

abbrev pub subcommand_wanted : App → App
subcommand_wanted a = record a { top = record a.top { subcommand_required = true } }

unfoldable pub program : App
program = with_subcommand (with_subcommand
    (with_subcommand (subcommand_wanted (new_app (codes "blossom"))) solve.top) check.top) trial.top

-- the text of an argument, or none
abbrev pub text_in : Text → List Row → List ℕ
text_in id rows = unwrap_or (first_of id rows) []

-- the command that a subcommand and its matches are
abbrev pub command_in : Text → List Row → Option Command
command_in name rows =
    if bytes_eq name (codes "solve") then solve_named
    (detail_by (bytes_eq (text_in (codes "brief") rows) (codes "true")))
    (text_in (codes "kind") rows)
    else if bytes_eq name (codes "check") then check_named (text_in (codes "kind") rows)
    else if bytes_eq name (codes "trial") then trial_by (text_in (codes "kind") rows)
    (text_in (codes "start") rows) (text_in (codes "vertices") rows)
    (text_in (codes "edges") rows)
    else None

-- clap takes the words
unfoldable pub is_taken : List Text → Bool
is_taken words = takes program words

-- the subcommand that clap finds, and its matches
unfoldable pub found_in : List Text → Option (Text × List Row)
found_in words = subcommand_of program words
