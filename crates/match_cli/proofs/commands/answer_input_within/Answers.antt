use Rattle.match_cli.proofs.StepCounts.{trial_counted_for}
use Rattle.match_cli.proofs.commands.answer_input_within.Goals as goal

pub returns-in-Solve : goal.returns-in-Solve
returns-in-Solve g c = rw c.in-Solve.is c.solve_input.ensures

pub returns-in-Trial : goal.returns-in-Trial
returns-in-Trial g c =
    let t = c.in-Trial in
    let e = c.trial.ensures in
    rw t.is (record { answer = e.answer; steps = e.steps; counted = trial_counted_for t.kind t.start t.n t.m c.args.input.items c.args.steps.now c.trial.new.steps e.counted })
