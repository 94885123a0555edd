use Rattle.certificates.proofs.Common.{◌≡◌, ℕ, ◌+◌, ◌*◌, ◌≤◌, List, subst, IfOk, document_text, IsWithinLimits, size_of, searches_of}
use Rattle.mwpm_engine.specs.Solutions.{most_steps}
use Rattle.match_cli.specs.declared.command.Command.TheVariants.{Solve}
use Rattle.solve_answers.specs.Details.{is_brief}
use Rattle.match_cli.specs.Solving.{Solves}
use Rattle.match_cli.proofs.SolveAnswers.{sized_answers}
use Rattle.match_cli.proofs.StepCounts.{within_limits, done_counts}
use Rattle.match_cli.proofs.solve.solve_instance.Goals as goal

pub returns-in-Ok-clause-answer : goal.returns-in-Ok-clause-answer
returns-in-Ok-clause-answer g c =
    let i = c.args.instance.now in
    let w = c.in-Ok.ensures.answer.written in
    let e = w.settles in
    let solves : Solves c.args.kind i w.whole = record { network = c.requires.network; proved = e.proved; truth = e.truth; exact = e.exact; chosen = e.chosen; size_limit = e.size_limit } in
    let text : IfOk c.solved-reply.result (λ a. a.text.items ≡ document_text w.whole (is_brief c.args.detail)) =
    subst (λ (t : List ℕ). IfOk c.solved-reply.result (λ a. a.text.items ≡ t)) w.text c.solved-reply.ensures.text in
    sized_answers c.args.kind c.args.detail i w.whole c.solved-reply.result c.in-Ok.ensures.answer.limits solves text c.solved-reply.ensures.status

pub returns-in-Ok-clause-steps : goal.returns-in-Ok-clause-steps
returns-in-Ok-clause-steps g c =
    let kind = c.args.kind in
    let i = c.args.instance.now in
    done_counts (Solve kind c.args.detail) c.args.steps.now c.solve_sized.new.steps c.solved-reply.result c.solved-reply.ensures.status
    (within_limits (size_of kind i) (searches_of kind) c.args.steps.now c.solve_sized.new.steps c.in-Ok.ensures.answer.limits c.in-Ok.ensures.steps)

pub returns-in-Err-OutOfMemory-clause-steps : goal.returns-in-Err-OutOfMemory-clause-steps
returns-in-Err-OutOfMemory-clause-steps g c =
    let kind = c.args.kind in
    let size = size_of kind c.args.instance.now in
    let after = c.solve_sized.new.steps in
    let failed = c.in-Err-OutOfMemory in
    let limits : IsWithinLimits size = rw failed.field-0-is at failed.ensures.answer in
    let counted : after ≤ c.args.steps.now + searches_of kind * most_steps size = rw failed.field-0-is at failed.ensures.steps in
    within_limits size (searches_of kind) c.args.steps.now after limits counted
