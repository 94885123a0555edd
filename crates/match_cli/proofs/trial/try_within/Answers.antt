use Rattle.match_cli.specs.Solving.{Solves}
use Rattle.match_cli.proofs.TrialAnswers.{solved_is_tried, accepted_is_done}
use Rattle.match_cli.proofs.trial.try_within.Goals as goal

pub returns-clause-text : goal.returns-clause-text
returns-clause-text g c =
    let i = c.args.instance.now in
    let t = c.in_ok-tried.tried in
    let e = c.in_ok-tried.ensures in
    let solves : Solves c.args.kind i t.document = record {
      network = c.requires.network;
      proved = e.proved;
      truth = e.truth;
      exact = e.exact;
      chosen = e.chosen;
      size_limit = e.size_limit;
    } in
    let size = c.gadget_size-vertices in
    solved_is_tried c.args.kind i t.document t.verdict size.result.0 size.result.1 c.told-reply.result solves e.accepted size.ensures.vertices size.ensures.edges c.told-reply.ensures.text

pub returns-clause-status : goal.returns-clause-status
returns-clause-status g c = accepted_is_done c.in_ok-tried.tried.verdict c.told-reply.result c.in_ok-tried.ensures.accepted c.told-reply.ensures.status
