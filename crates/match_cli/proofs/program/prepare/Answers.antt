use Rattle.graph_theory.proofs.Common.{◌≡◌, ◌∙◌, [], Some, None, map, sym, string_bytes}
use Rattle.match_cli.specs.Arguments.{command_of}
use Rattle.match_cli.specs.Commands.{limit_of, ReadsUpTo}
use Rattle.match_cli.proofs.Prepares.{answered_reading, counted-reading, counted-unread, none-counted, too_long}
use Rattle.match_cli.proofs.program.prepare.Goals as goal

pub returns-in-Err-TooLong-clause-answer : goal.returns-in-Err-TooLong-clause-answer
returns-in-Err-TooLong-clause-answer g c =
    let words = map string_bytes c.args.words.now.items in
    let before = g.I.Source.left c.args.source.now in
    let after = g.I.Source.left c.read_all.new.source in
    let reads : ReadsUpTo words c.in-Some-limit.limit = (c.in-Some.command, sym c.in-Ok.ensures.exact ∙ c.in-Some.is, sym c.limit.ensures.limit ∙ c.in-Some-limit.is) in
    let long = c.in-Err-TooLong in
    let ready = c.ready-in-Err-TooLong in
    too_long words c.in-Some-limit.limit before after reads c.read_all.result long.field-0 long.is long.field-0-is c.read_all.ensures.bytes ready.result ready.ensures

pub returns-in-Ok-read_all-clause-answer : goal.returns-in-Ok-read_all-clause-answer
returns-in-Ok-read_all-clause-answer g c =
    let words = map string_bytes c.args.words.now.items in
    let command = c.in-Some.command in
    let limit = c.in-Some-limit.limit in
    let bytes = c.in-Ok-read_all.bytes.items in
    let before = g.I.Source.left c.args.source.now in
    let after = g.I.Source.left c.read_all.new.source in
    let taken : command_of words ≡ Some command = sym c.in-Ok.ensures.exact ∙ c.in-Some.is in
    let reads : limit_of command ≡ Some limit = sym c.limit.ensures.limit ∙ c.in-Some-limit.is in
    let read = c.in-Ok-read_all.ensures.bytes in
    let decided = c.decide-in-Ok-read_all.ensures in
    answered_reading words command limit bytes before after taken reads read.0 read.1 read.2 c.decide-in-Ok-read_all.result decided.answer decided.memory

pub returns-in_default-clause-counted : goal.returns-in_default-clause-counted
returns-in_default-clause-counted g c = none-counted (map string_bytes c.args.words.now.items) (g.I.Source.left c.args.source.now) c.args.steps.now

pub returns-in_default-taken-clause-counted : goal.returns-in_default-taken-clause-counted
returns-in_default-taken-clause-counted g c = none-counted (map string_bytes c.args.words.now.items) (g.I.Source.left c.args.source.now) c.args.steps.now

pub returns-in-Err-ReadFault-clause-counted : goal.returns-in-Err-ReadFault-clause-counted
returns-in-Err-ReadFault-clause-counted g c = none-counted (map string_bytes c.args.words.now.items) (g.I.Source.left c.args.source.now) c.args.steps.now

pub returns-in-Err-OutOfMemory-clause-counted : goal.returns-in-Err-OutOfMemory-clause-counted
returns-in-Err-OutOfMemory-clause-counted g c = none-counted (map string_bytes c.args.words.now.items) (g.I.Source.left c.args.source.now) c.args.steps.now

pub returns-in-Err-TooLong-clause-counted : goal.returns-in-Err-TooLong-clause-counted
returns-in-Err-TooLong-clause-counted g c = none-counted (map string_bytes c.args.words.now.items) (g.I.Source.left c.args.source.now) c.args.steps.now

pub returns-in_default-limit-clause-counted : goal.returns-in_default-limit-clause-counted
returns-in_default-limit-clause-counted g c =
    let taken = sym c.in-Ok.ensures.exact ∙ c.in-Some.is in
    let unread : limit_of c.in-Some.command ≡ None = sym c.limit.ensures.limit ∙ c.in_default-limit.is in
    counted-unread (map string_bytes c.args.words.now.items) c.in-Some.command (g.I.Source.left c.args.source.now) c.new.result.items c.args.steps.now c.decide.new.steps
    taken unread c.new.ensures.items c.decide.ensures.counted

pub returns-in-Ok-read_all-clause-counted : goal.returns-in-Ok-read_all-clause-counted
returns-in-Ok-read_all-clause-counted g c =
    let read = c.in-Ok-read_all.ensures.bytes in
    counted-reading (map string_bytes c.args.words.now.items) c.in-Some.command c.in-Some-limit.limit [] c.in-Ok-read_all.bytes.items (sym c.in-Ok.ensures.exact ∙ c.in-Some.is)
    (sym c.limit.ensures.limit ∙ c.in-Some-limit.is) read.0 (g.I.Source.left c.args.source.now) (g.I.Source.left c.read_all.new.source) c.args.steps.now c.decide-in-Ok-read_all.new.steps
    read.1 read.2 c.decide-in-Ok-read_all.ensures.counted
