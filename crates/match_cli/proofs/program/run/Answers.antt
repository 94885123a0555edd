use Rattle.graph_theory.proofs.Common.{ℕ, List, map, subst, string_bytes}
use Rattle.mb_base.specs.Streams.{Extends}
use Rattle.match_cli.proofs.Truths.{tells_truth}
use Rattle.match_cli.proofs.Completeness.{completes}
use Rattle.match_cli.proofs.AcceptedAgain.{accepted_again}
use Rattle.match_cli.proofs.RunEnds.{written_whole}
use Rattle.match_cli.specs.Runs.{Around, IsDecided, Takes}
use Rattle.match_cli.proofs.program.run.Goals as goal

pub returns-in-Ok-write_all-clause-answer : goal.returns-in-Ok-write_all-clause-answer
returns-in-Ok-write_all-clause-answer g c =
    let words = map string_bytes c.args.words.now.items in
    let before : Around = record { left = g.I.Source.left c.args.source.now; taken = g.O.Sink.taken c.args.sink.now; room = g.O.Sink.room c.args.sink.now; steps = c.args.steps.now } in
    let after : Around = record {
      left = g.I.Source.left c.prepare.new.source;
      taken = g.O.Sink.taken c.write_all.new.sink;
      room = g.O.Sink.room c.write_all.new.sink;
      steps =
          c.prepare.new.steps;
    } in
    let h = c.in-Ok.ensures in
    let w = c.in-Ok-write_all.ensures in
    let decided : IsDecided words before after c.in-Ok.answer.text.items c.in-Ok.answer.status = record { written = h.answer.0; answer = h.answer.1; usage = h.usage; steps = h.steps } in
    let took : Takes before after c.deref.result.now = record { taken = w.bytes; room = w.room; told = w.told } in
    written_whole words before after c.in-Ok.answer.text.items c.in-Ok.answer.status decided (subst (Takes before after) c.deref.ensures.value took)

pub returns-in-Ok-write_all-clause-truth : goal.returns-in-Ok-write_all-clause-truth
returns-in-Ok-write_all-clause-truth g c =
    tells_truth (map string_bytes c.args.words.now.items) (g.I.Source.left c.args.source.now)
    (g.I.Source.left c.prepare.new.source) c.in-Ok.answer.text.items c.in-Ok.answer.status c.in-Ok.ensures.answer.1

pub returns-in-Ok-write_all-clause-again : goal.returns-in-Ok-write_all-clause-again
returns-in-Ok-write_all-clause-again g c =
    let before = g.O.Sink.taken c.args.sink.now in
    let after = g.O.Sink.taken c.write_all.new.sink in
    let out = c.in-Ok.answer.text.items in
    let wrote : Extends before after out = subst (λ (bytes : List ℕ). Extends before after bytes) c.deref.ensures.value c.in-Ok-write_all.ensures.bytes in
    accepted_again (map string_bytes c.args.words.now.items) (g.I.Source.left c.args.source.now)
    (g.I.Source.left c.prepare.new.source) before after out c.in-Ok.answer.status c.in-Ok.ensures.answer.1 wrote

pub returns-in-Ok-write_all-clause-complete : goal.returns-in-Ok-write_all-clause-complete
returns-in-Ok-write_all-clause-complete g c =
    completes (map string_bytes c.args.words.now.items) (g.I.Source.left c.args.source.now)
    (g.I.Source.left c.prepare.new.source) c.in-Ok.answer.text.items c.in-Ok.answer.status c.in-Ok.ensures.answer.1
