use Rattle.check_text.proofs.Checks.{document_answers}
use Rattle.check_text.proofs.checking.check_document.Goals as goal

pub judge-requires-clause-weights : goal.judge-requires-clause-weights
judge-requires-clause-weights c = c.requires.well_formed.weights

pub returns : goal.returns
returns c =
    let judged = c.in_ok-verdict in
    document_answers c.args.kind c.args.instance.now c.args.document.now judged.verdict c.judged.result judged.ensures.verdict judged.ensures.sound c.judged.ensures.text
    c.judged.ensures.status
