use Rattle.solve_answers.proofs.JoinAnswers.{tour-few}
use Rattle.solve_answers.proofs.joins.extract_tour.Goals as goal

pub closed_walk-answer-requires : goal.closed_walk-answer-requires
closed_walk-answer-requires c =
    let j = c.in_ok-join.ensures in
    record { connected = c.requires.connected; join = record { ascending = j.ascending; in_range = j.in_range; join = j.join } }

pub returns-clause-few_steps : goal.returns-clause-few_steps
returns-clause-few_steps c = tour-few c.args.instance.now c.in_ok-join.join.edges c.in_ok-answer.answer c.in_ok-answer.ensures.feasible c.in_ok-answer.ensures.uses
