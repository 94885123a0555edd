use Rattle.certificates.proofs.Common.{◌≤◌, length, IfOk-weaker, IsWalkWith}
use Rattle.solve_answers.proofs.TurnAnswers.{turns-chosen, turns-few}
use Rattle.solve_answers.proofs.turns.extract_parity.Goals as goal

pub returns : goal.returns
returns c =
    let i = c.args.instance.now in
    let r = c.extract.result in
    let e = c.extract.ensures in
    let P = IsWalkWith (λ start steps. length steps ≤ length i.edges) ⊥ in
    record { feasible = e.feasible; few_steps = IfOk-weaker r P _ (turns-few i) e.size_limit; chosen = IfOk-weaker r _ _ (turns-chosen c.args.odd i) e.feasible; weighs = e.weighs }
