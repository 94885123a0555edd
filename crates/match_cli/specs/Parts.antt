-- What is said of the parts that clap's program is made of.
use Rattle.std.specs.Prelude.{◌≡◌, false}
use Rattle.clap.specs.Words.{App, Rule, app_of, rule_of}
use Rattle.clap.specs.declared.builder.arg.Arg.{Arg}
use Rattle.clap.specs.declared.builder.command.Command.{Command}
use Rattle.clap.specs.declared.builder.command.Command.TheViews.{out-Command as fields_of}

-- clap's argument has this rule, and isn't global
abbrev pub IsArgument : Rule → Arg → Type 0
IsArgument rule a = (rule_of a ≡ rule) × (a.global ≡ false)

-- clap's command has this shape, and no global argument
abbrev pub IsSubcommand : App → Command → Type 0
IsSubcommand app c = (app_of c ≡ app) × ((fields_of c).has_globals ≡ false)
