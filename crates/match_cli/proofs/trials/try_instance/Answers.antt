use Rattle.match_cli.proofs.SolvedNumbers.{kept}
use Rattle.match_cli.proofs.trials.try_instance.Goals as goal

pub judge_text-requires-clause-kept : goal.judge_text-requires-clause-kept
judge_text-requires-clause-kept g c =
    kept c.args.kind c.args.instance.now c.in_ok-document.document c.requires.network c.requires.limits c.in_ok-document.ensures.proved c.in_ok-document.ensures.size_limit

pub returns-in-Ok : goal.returns-in-Ok
returns-in-Ok g c =
    let e = c.in_ok-document.ensures in
    record { proved = e.proved; truth = e.truth; exact = e.exact; chosen = e.chosen; size_limit = e.size_limit; accepted = c.in-Ok.ensures; steps = e.steps }
