use Rattle.mb_problem.proofs.Common.{◌+◌, ◌*◌, ◌≤◌, rules, subst, IfOk, IsWithinLimits, Network, size_of, searches_of}
use Rattle.match_cli.specs.declared.command.Command.TheVariants.{Trial}
use Rattle.mwpm_engine.specs.Solutions.{most_steps}
use Rattle.match_cli.specs.Trying.{DecidesTrial}
use Rattle.match_cli.proofs.StepCounts.{within_limits, done_counts}
use Rattle.match_cli.proofs.TrialAnswers.{tried_answers}
use Rattle.match_cli.proofs.trial.trial.Goals as goal

pub returns : goal.returns
returns g c =
    let kind = c.args.kind in
    let i : Network = c.in_ok-instance.instance in
    let made = c.in_ok-instance.ensures.made in
    let fits : IsWithinLimits (size_of kind i) = search rules in
    let reply = c.try_within-reply in
    let counted = within_limits (size_of kind i) (searches_of kind) c.args.steps.now reply.new.steps fits reply.ensures.counted in
    record {
      answer = subst (λ (j : Network). IfOk reply.result (DecidesTrial kind j)) made (tried_answers kind i reply.result fits reply.ensures.text reply.ensures.status);
      steps = done_counts (Trial kind c.args.start c.args.n c.args.m) c.args.steps.now reply.new.steps reply.result reply.ensures.status counted;
      counted = subst (λ (j : Network). reply.new.steps ≤ c.args.steps.now + searches_of kind * most_steps (size_of kind j)) made reply.ensures.counted;
    }
